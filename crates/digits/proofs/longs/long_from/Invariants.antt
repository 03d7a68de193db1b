use Rattle.digits.proofs.StandingLaws.{NumberGoing}
use Rattle.digits.proofs.longs.long_from.Given as goal

abbrev pub invariant-loop-next : goal.invariant-loop-next
invariant-loop-next l = NumberGoing l.text l.from l.next l.value
