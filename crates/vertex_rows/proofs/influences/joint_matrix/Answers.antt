use mathlib.Core.Path.{◌∙◌}
use native.Mathlib.Omega.{arith}
use Rattle.model.specs.Lists.{rows_in}
use Rattle.vertex_rows.proofs.Blended.{has-rows, no-joints, no-weights}
use Rattle.vertex_rows.proofs.influences.joint_matrix.Goals as goal

pub returns-then-v-by-2 : goal.returns-then-v-by-2
returns-then-v-by-2 c =
    let a = c.args in
    c.blend_row.ensures ∙ has-rows (rows_in 16 a.by.palette.now) a.by.joints.now a.by.weights.now a.v (omega arith) (omega arith)

pub returns-else-v-by-2 : goal.returns-else-v-by-2
returns-else-v-by-2 c =
    let a = c.args in
    no-weights (rows_in 16 a.by.palette.now) a.by.joints.now a.by.weights.now a.v (omega arith) (omega arith)

pub returns-else-v-by : goal.returns-else-v-by
returns-else-v-by c =
    let a = c.args in
    no-joints (rows_in 16 a.by.palette.now) a.by.joints.now a.by.weights.now a.v (omega arith)
