use mathlib.Core.Path.{◌≡◌}
use mathlib.Core.List.{◌++◌}
use Prim.Native.Nat.{◌+◌, ◌-◌, ◌*◌, ◌≤◌}
use lib.ListN.{length, drop}
use lib.Seq.{paste}
use Rattle.placing.specs.WalkRoom.{listed_as, stack_of, words_for}
use Rattle.placing.proofs.push.Given as goal

abbrev pub invariant-loop-i : goal.invariant-loop-i
invariant-loop-i l =
    (l.i ≤ length l.list) × (l.at + l.i ≡ l.top + length l.list)
    × (stack_of l.walk l.at ≡ listed_as l.code (drop l.i l.list) ++ stack_of l.initial.walk l.top) × (length l.walk ≡ length l.initial.walk)
    × (l.walk ≡ paste l.initial.walk (2 * l.top) (words_for l.code (drop l.i l.list)) (2 * (length l.list - l.i)))
