use mathlib.Core.Path.{◌∙◌, ap}
use Rattle.row_checks.specs.Places.{in_between_fits}
use Rattle.row_checks.specs.Bounds.{in_between_within}
use Rattle.checks.specs.Drawn.{drawn, in_between_number}
use Rattle.checks.proofs.records.check_in_between.Goals as goal

pub returns : goal.returns
unfolding in_between_number
returns c =
    let a = c.args in
    let row = c.in_between_row-row.ensures in
    c.check.ensures
    ∙ (λ j. drawn ((c.in_between_fits.ensures ∙ ap (in_between_fits a.s) row) j) ((c.in_between_within.ensures ∙ ap in_between_within row) j))
