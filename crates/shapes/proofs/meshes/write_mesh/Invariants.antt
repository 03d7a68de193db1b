use mathlib.Core.List.{[]}
use Rattle.borrowed.specs.Attributes.{SameSlices}
use Rattle.checks.specs.Drawn.{lent_as}
use Rattle.shapes.specs.Rest.{palette_in}
use Rattle.shapes.proofs.Going.{Going}
use Rattle.shapes.proofs.meshes.write_mesh.Given as goal

abbrev pub invariant-loop-k : goal.invariant-loop-k
invariant-loop-k l =
    let first = l.initial.out in
    SameSlices first l.out
    × Going (lent_as l.lent.words.now l.lent.floats.now [] [] l.lent.header) l.part l.weights l.world.m (palette_in l.palette) first.positions.now first.normals.now first.tangents.now l.k l.at l.out.positions.now l.out.normals.now l.out.tangents.now
