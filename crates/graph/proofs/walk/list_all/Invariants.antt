use mathlib.Core.Path.{◌≡◌}
use Prim.Native.Nat.{◌≤◌}
use lib.ListN.{length, drop}
use Rattle.model.specs.Parents.{mark_all}
use Rattle.graph.specs.Stack.{Turned}
use Rattle.graph.proofs.walk.list_all.Given as goal

abbrev pub invariant-loop-i : goal.invariant-loop-i
invariant-loop-i l =
    (l.i ≤ length l.list) × Turned (mark_all l.p (drop l.i l.list)) l.initial.ids l.top l.initial.marks l.ids l.at l.marks × (length l.ids ≡ length l.initial.ids) × (length l.marks ≡ length l.initial.marks)
