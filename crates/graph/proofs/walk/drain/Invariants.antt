use mathlib.Core.Path.{◌≡◌}
use mathlib.Core.List.{List}
use Prim.Native.Nat.{ℕ, ◌+◌, ◌≤◌}
use lib.ListN.{length}
use Rattle.graph.specs.Stack.{zeros, Drained}
use Rattle.graph.proofs.walk.drain.Given as goal

abbrev pub invariant-loop-left : goal.invariant-loop-left
invariant-loop-left l =
    (l.left + zeros l.marks ≤ length l.initial.ids)
    × ((out : List ℕ) → Drained l.words l.nodes l.ids l.left l.marks out → Drained l.words l.nodes l.initial.ids l.top l.initial.marks out)
    × (length l.ids ≡ length l.initial.ids) × (length l.marks ≡ length l.initial.marks)

abbrev pub decreases-loop-left : goal.decreases-loop-left
decreases-loop-left l = l.left + zeros l.marks
