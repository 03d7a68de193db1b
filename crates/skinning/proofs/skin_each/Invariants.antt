use Prim.Native.Nat.{◌≤◌}
use Rattle.borrowed.specs.Attributes.{SameSlices}
use Rattle.model.specs.Lists.{rows_in}
use Rattle.skinning.specs.Moved.{MovedFrom}
use Rattle.skinning.proofs.skin_each.Given as goal

abbrev pub invariant-loop-i : goal.invariant-loop-i
invariant-loop-i l =
    let first = l.initial.out in
    (l.i ≤ l.n)
    × SameSlices first l.out
    × MovedFrom (rows_in 16 l.by.palette.now) (rows_in 4 l.by.joints.now) (rows_in 4 l.by.weights.now) l.k l.i first.positions.now l.out.positions.now first.normals.now l.out.normals.now first.tangents.now l.out.tangents.now
