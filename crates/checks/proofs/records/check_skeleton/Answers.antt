use mathlib.Core.Path.{◌∙◌, ap}
use Rattle.row_checks.specs.Places.{skeleton_fits}
use Rattle.row_checks.specs.Bounds.{skeleton_within}
use Rattle.checks.specs.Drawn.{drawn, skeleton_number}
use Rattle.checks.proofs.records.check_skeleton.Goals as goal

pub returns : goal.returns
unfolding skeleton_number
returns c =
    let a = c.args in
    let row = c.skeleton_row-row.ensures in
    c.check.ensures
    ∙ (λ j. drawn ((c.skeleton_fits.ensures ∙ ap (skeleton_fits a.s) row) j) ((c.skeleton_within.ensures ∙ ap skeleton_within row) j))
