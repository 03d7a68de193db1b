use mathlib.Core.Path.{refl}
use Rattle.vertex_rows.specs.Rows.{has_plain_bottom}
use Rattle.vertex_rows.proofs.positions.has_plain_bottom.Goals as goal

pub returns : goal.returns
unfolding has_plain_bottom
returns c = refl
