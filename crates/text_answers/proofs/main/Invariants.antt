use mathlib.Core.Path.{◌≡◌}
use Prim.Native.Nat.{◌≤◌, ◌-◌}
use lib.ListN.{length}
use Rattle.text_answers.proofs.main.Given as goal

abbrev pub invariant-loop-at : goal.invariant-loop-at
invariant-loop-at l = (length l.texts ≡ 32768) × (l.got ≤ 32768) × (l.at ≤ 32770)

abbrev pub decreases-loop-at : goal.decreases-loop-at
decreases-loop-at l = 32771 - l.at
