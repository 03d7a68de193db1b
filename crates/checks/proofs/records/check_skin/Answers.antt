use mathlib.Core.Bool.{true}
use mathlib.Core.Path.{◌∙◌, ap}
use Rattle.row_checks.specs.Bounds.{skin_within}
use Rattle.checks.specs.Drawn.{drawn, skin_number}
use Rattle.checks.proofs.records.check_skin.Goals as goal

pub returns : goal.returns
unfolding skin_number
returns c = c.check.ensures ∙ ap (drawn true) (c.skin_within.ensures ∙ ap skin_within c.skin_row.ensures)
