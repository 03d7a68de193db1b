use native.Mathlib.Omega.{arith}
use Rattle.model.proofs.Rowwise.{row_ends}
use Rattle.skinning.proofs.HeldSteps.{held-not, held-normal}
use Rattle.skinning.proofs.holding.hold_normal.Goals as goal

pub overflow_mul-v : goal.overflow_mul-v
overflow_mul-v c = omega (arith, row_ends 3 c.args.of.now.normals.now c.args.v (c.requires.1 c.if-whole.true))

pub load3-n-requires : goal.load3-n-requires
load3-n-requires c = omega (arith, row_ends 3 c.args.of.now.normals.now c.args.v (c.requires.1 c.if-whole.true))

pub returns-then-whole : goal.returns-then-whole
returns-then-whole c =
    let a = c.args in
    held-normal a.whole a.m.m a.of.now.normals.now a.v a.i a.held.now _ c.linear_inverse_transpose.result _ _
    c.linear_inverse_transpose.ensures c.load3-n.ensures c.direction.ensures c.store3.ensures

pub returns-else-whole : goal.returns-else-whole
returns-else-whole c = held-not _ _ _ _ c.if-whole.false
