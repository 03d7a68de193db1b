use mathlib.Core.Path.{◌≡◌, ◌∙◌}
use mathlib.Core.List.{◌++◌}
use Rattle.model.specs.Lists.{tabulate}
use Rattle.model.specs.Matrix.{mul}
use Rattle.scene.specs.Values.{by_rows}
use Rattle.scene.proofs.matrices.mat4_mul.Goals as goal

pub returns : goal.returns
unfolding mul tabulate
returns c =
    let a = c.rows_of-left in
    let b = c.rows_of-right in
    let rows : by_rows _ ≡ mul (by_rows a.result) (by_rows b.result) = λ i. c.mul_row.ensures i ++ c.mul_row-2.ensures i ++ c.mul_row-3.ensures i ++ c.mul_row-4.ensures i in
    c.matrix_of.ensures ∙ rows ∙ (λ i. mul (a.ensures i) (b.ensures i))
