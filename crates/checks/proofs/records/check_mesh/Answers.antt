use mathlib.Core.Path.{◌∙◌, ap}
use Rattle.row_checks.specs.Places.{mesh_fits}
use Rattle.row_checks.specs.Bounds.{mesh_within}
use Rattle.checks.specs.Drawn.{drawn, mesh_number}
use Rattle.checks.proofs.records.check_mesh.Goals as goal

pub returns : goal.returns
unfolding mesh_number
returns c =
    let a = c.args in
    let row = c.mesh_row-row.ensures in
    c.check.ensures
    ∙ (λ j. drawn ((c.mesh_fits.ensures ∙ ap (mesh_fits a.s) row) j) ((c.mesh_within.ensures ∙ ap mesh_within row) j))
