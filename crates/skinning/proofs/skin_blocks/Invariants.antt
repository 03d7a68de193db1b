use mathlib.Core.Path.{◌≡◌}
use Prim.Native.Nat.{◌*◌, ◌/◌, ◌≤◌}
use lib.ListN.{length}
use Rattle.borrowed.specs.Attributes.{SameSlices}
use Rattle.model.specs.Lists.{rows_in}
use Rattle.skinning.specs.Moved.{FirstMoved}
use Rattle.skinning.proofs.skin_blocks.Given as goal

abbrev pub invariant-loop-b : goal.invariant-loop-b
invariant-loop-b l =
    let first = l.initial.out in
    (l.b ≤ l.n)
    × (l.n ≡ length first.positions.now / 3 / 16)
    × SameSlices first l.out
    × FirstMoved (rows_in 16 l.by.palette.now) (rows_in 4 l.by.joints.now) (rows_in 4 l.by.weights.now) (l.b * 16) first.positions.now l.out.positions.now first.normals.now l.out.normals.now first.tangents.now l.out.tangents.now
