use mathlib.Core.Path.{◌∙◌, ap}
use Rattle.model.specs.Sampling.{unit_lerp}
use Rattle.blend.proofs.along_arc.Goals as goal

pub returns-then-c : goal.returns-then-c
returns-then-c c = rw c.if-c.true (c.unit_or_same.ensures ∙ ap unit_lerp c.lerp.ensures)

pub returns : goal.returns
returns c =
    rw (c.if-c.false, ← c.turn_weight-p.ensures, ← c.turn_weight-q.ensures) c.weighted.ensures
