use mathlib.Core.Path.{◌≡◌}
use Prim.Native.Nat.{◌≤◌}
use lib.ListN.{length}
use Rattle.borrowed.specs.Attributes.{SameSlices}
use Rattle.model.specs.Lists.{rows_in}
use Rattle.skinning.specs.Holding.{HeldRows}
use Rattle.skinning.proofs.holding.hold_block.Given as goal

abbrev pub invariant-loop-i : goal.invariant-loop-i
invariant-loop-i l =
    let first = l.initial.out in
    (l.i ≤ 16)
    × (l.out.normals.now ≡ first.normals.now)
    × (length l.n ≡ 48)
    × (length l.t ≡ 48)
    × SameSlices first l.out
    × HeldRows (rows_in 16 l.by.palette.now) (rows_in 4 l.by.joints.now) (rows_in 4 l.by.weights.now) l.whole l.k l.i first.positions.now l.out.positions.now first.normals.now first.tangents.now l.out.tangents.now l.n l.t
