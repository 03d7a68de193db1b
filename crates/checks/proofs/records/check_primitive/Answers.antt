use mathlib.Core.Path.{◌∙◌, ap}
use Rattle.row_checks.specs.Places.{primitive_fits}
use Rattle.row_checks.specs.Bounds.{primitive_within}
use Rattle.checks.specs.Drawn.{drawn, primitive_number}
use Rattle.checks.proofs.records.check_primitive.Goals as goal

pub returns : goal.returns
unfolding primitive_number
returns c =
    let a = c.args in
    let row = c.primitive_row-row.ensures in
    c.check.ensures
    ∙ (λ j. drawn ((c.primitive_fits.ensures ∙ ap (primitive_fits a.s) row) j) ((c.primitive_within.ensures ∙ ap primitive_within row) j))
