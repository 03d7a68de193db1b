use mathlib.Core.Path.{◌≡◌}
use Prim.Native.Nat.{◌≤◌}
use Rattle.shapes.specs.Rest.{lengths_below}
use Rattle.shapes.proofs.counting.mesh_lengths.Given as goal

abbrev pub invariant-loop-k : goal.invariant-loop-k
invariant-loop-k l = (l.total ≡ lengths_below l.words l.table l.part l.k) × (l.k ≤ l.part.count)
