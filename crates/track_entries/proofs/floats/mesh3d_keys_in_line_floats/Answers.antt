use mathlib.Core.Path.{sym, ap, ◌∙◌}
use Rattle.track_entries.specs.Tracks.{mark_of}
use Rattle.track_entries.proofs.floats.mesh3d_keys_in_line_floats.Goals as goal

pub returns-then-keys_in_line : goal.returns-then-keys_in_line
returns-then-keys_in_line c = ap mark_of (sym c.if-keys_in_line.true ∙ c.keys_in_line.ensures)

pub returns : goal.returns
returns c = ap mark_of (sym c.if-keys_in_line.false ∙ c.keys_in_line.ensures)
