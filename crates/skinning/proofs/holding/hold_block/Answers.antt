use mathlib.Core.Path.{refl, subst}
use Prim.Native.Nat.{◌+◌}
use native.Mathlib.Omega.{arith}
use mathlib.Core.List.{List}
use lib.Ieee.{Float}
use Rattle.model.specs.Lists.{rows_in}
use Rattle.scene.specs.Values.{matrix_of}
use Rattle.skinning.specs.Holding.{HeldVertex}
use Rattle.skinning.proofs.HeldSteps.{none-held, next-held}
use borrow.Author.Rules.{rules}
use Rattle.skinning.proofs.holding.hold_block.Goals as goal

pub loop-i-init : goal.loop-i-init
loop-i-init c =
    let a = c.args in
    (omega arith, refl, search rules, search rules, search rules, none-held (rows_in 16 a.by.palette.now) (rows_in 4 a.by.joints.now) (rows_in 4 a.by.weights.now) a.whole a.k a.out.now.positions.now a.out.now.normals.now a.out.now.tangents.now _ _)

pub loop-i-preserved : goal.loop-i-preserved
loop-i-preserved c =
    let a = c.args in
    let l = c.loop-i in
    let v = c.hold_vertex.new in (
      omega arith,
      search rules,
      search rules,
      search rules,
      search rules,
      next-held (rows_in 16 a.by.palette.now) (rows_in 4 a.by.joints.now) (rows_in 4 a.by.weights.now) a.whole a.k a.out.now.positions.now a.out.now.normals.now a.out.now.tangents.now l.i _ l.out.positions.now _ l.out.tangents.now _ l.n _ l.t _
          c.joint_matrix-joint.ensures (omega (arith, l.invariant.2)) (omega (arith, l.invariant.3)) l.invariant.5 (subst (λ (ns : List Float). HeldVertex a.whole (matrix_of c.joint_matrix-joint.result) (a.k + l.i) l.i l.out.positions.now v.out.positions.now ns l.out.tangents.now v.out.tangents.now l.n v.n l.t v.t) l.invariant.1 c.hold_vertex.ensures.held),
    )
