use native.Mathlib.Omega.{arith}
use Rattle.model.specs.Lists.{rows_in}
use Rattle.skinning.proofs.Moved.{none_from, next-vertex}
use borrow.Author.Rules.{rules}
use Rattle.skinning.proofs.skin_each.Goals as goal

pub loop-i-init : goal.loop-i-init
loop-i-init c =
    let a = c.args in
    (omega arith, search rules, none_from (rows_in 16 a.by.palette.now) (rows_in 4 a.by.joints.now) (rows_in 4 a.by.weights.now) a.k a.out.now.positions.now a.out.now.normals.now a.out.now.tangents.now)

pub loop-i-preserved : goal.loop-i-preserved
loop-i-preserved c =
    let a = c.args in
    let l = c.loop-i in (
      omega arith,
      search rules,
      next-vertex (rows_in 16 a.by.palette.now) (rows_in 4 a.by.joints.now) (rows_in 4 a.by.weights.now) a.k l.i _ c.joint_matrix-joint.ensures a.out.now.positions.now l.out.positions.now _ a.out.now.normals.now l.out.normals.now _ a.out.now.tangents.now l.out.tangents.now _ l.invariant.2 c.skin_vertex.ensures.moved,
    )
