use mathlib.Core.Path.{◌∙◌, ap}
use Rattle.row_checks.specs.Places.{node_fits}
use Rattle.row_checks.specs.Bounds.{node_within}
use Rattle.checks.specs.Drawn.{drawn, node_number}
use Rattle.checks.proofs.records.check_node.Goals as goal

pub returns : goal.returns
unfolding node_number
returns c =
    let a = c.args in
    let row = c.node_row-row.ensures in
    c.check.ensures
    ∙ (λ j. drawn ((c.node_fits.ensures ∙ ap (node_fits a.s) row) j) ((c.node_within.ensures ∙ ap node_within row) j))
