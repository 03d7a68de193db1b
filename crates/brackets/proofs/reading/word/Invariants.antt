use Prim.Native.Nat.{◌-◌}
use lib.ListN.{length}
use Rattle.grammar.specs.Digits.{base_of, sort_for}
use Rattle.brackets.proofs.ReadingLaws.{WordGoing}
use Rattle.brackets.proofs.reading.word.Given as goal

abbrev pub invariant-loop-next : goal.invariant-loop-next
invariant-loop-next l = WordGoing (base_of (sort_for l.float)) l.text l.at l.value l.next

abbrev pub decreases-loop-next : goal.decreases-loop-next
decreases-loop-next l = length l.text - l.next
