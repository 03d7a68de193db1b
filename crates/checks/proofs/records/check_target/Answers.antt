use mathlib.Core.Path.{◌∙◌, ap}
use Rattle.row_checks.specs.Places.{target_fits}
use Rattle.row_checks.specs.Bounds.{target_within}
use Rattle.checks.specs.Drawn.{drawn, target_number}
use Rattle.checks.proofs.records.check_target.Goals as goal

pub returns : goal.returns
unfolding target_number
returns c =
    let a = c.args in
    let row = c.target_row-row.ensures in
    c.check.ensures
    ∙ (λ j. drawn ((c.target_fits.ensures ∙ ap (target_fits a.s) row) j) ((c.target_within.ensures ∙ ap target_within row) j))
