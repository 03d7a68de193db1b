use Prim.Native.Nat.{◌≤◌}
use lib.ListN.{take}
use Rattle.borrowed.specs.Attributes.{SameSlices}
use Rattle.model.specs.Morph.{with_targets}
use Rattle.model.specs.Attributes.{attributes_in}
use Rattle.mesh.specs.Lent.{targets_in}
use Rattle.mesh.proofs.Morphing.{Morphed}
use Rattle.mesh.proofs.morphed.Given as goal

abbrev pub invariant-loop-k : goal.invariant-loop-k
invariant-loop-k l =
    let first = l.initial.out in
    (l.k ≤ l.n)
    × SameSlices first l.out
    × Morphed (with_targets (take l.k (targets_in l.lent.words.now l.lent.floats.now l.lent.header l.targets)) (take l.k l.weights) (attributes_in first.positions.now first.normals.now first.tangents.now)) first.positions.now l.out.positions.now first.normals.now l.out.normals.now first.tangents.now l.out.tangents.now
