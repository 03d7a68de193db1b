use mathlib.Core.Path.{◌≡◌}
use Prim.Native.Nat.{◌+◌, ◌≤◌}
use lib.ListN.{length, drop}
use Rattle.graph.specs.Stack.{Rooted}
use Rattle.graph.proofs.walk.list_roots.Given as goal

abbrev pub invariant-loop-i : goal.invariant-loop-i
invariant-loop-i l =
    (l.i ≤ length l.roots) × (l.top + l.i ≡ length l.roots) × Rooted (drop l.i l.roots) l.initial.marks l.ids l.top l.marks
    × (length l.ids ≡ length l.initial.ids) × (length l.marks ≡ length l.initial.marks)
