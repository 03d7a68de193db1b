use mathlib.Core.Path.{refl}
use native.Mathlib.Omega.{arith}
use Rattle.model.specs.Lists.{rows_in}
use Rattle.skinning.proofs.Moved.{none_first, next-sixteen}
use borrow.Author.Rules.{rules}
use Rattle.skinning.proofs.skin_blocks.Goals as goal

pub loop-b-init : goal.loop-b-init
loop-b-init c =
    let a = c.args in
    (omega arith, refl, search rules, none_first (rows_in 16 a.by.palette.now) (rows_in 4 a.by.joints.now) (rows_in 4 a.by.weights.now) a.out.now.positions.now a.out.now.normals.now a.out.now.tangents.now)

pub loop-b-preserved : goal.loop-b-preserved
loop-b-preserved c =
    let a = c.args in
    let l = c.loop-b in (
      omega arith,
      l.invariant.1,
      search rules,
      next-sixteen (rows_in 16 a.by.palette.now) (rows_in 4 a.by.joints.now) (rows_in 4 a.by.weights.now) l.b a.out.now.positions.now l.out.positions.now _ a.out.now.normals.now l.out.normals.now _ a.out.now.tangents.now l.out.tangents.now _ l.invariant.3 c.skin_sixteen.ensures.moved,
    )
