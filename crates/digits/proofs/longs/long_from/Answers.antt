use native.Mathlib.Omega.{arith}
use Rattle.digits.proofs.StandingLaws.{number-start, number_more, number-ends}
use Rattle.digits.proofs.longs.long_from.Goals as goal

pub loop-next-init : goal.loop-next-init
loop-next-init c = number-start c.requires

pub returns-then-b-lt48 : goal.returns-then-b-lt48
returns-then-b-lt48 c = number-ends c.loop-next.invariant c.loop-next-test.true c.if-b-lt48.true

pub loop-next-preserved : goal.loop-next-preserved
loop-next-preserved c =
    number_more c.loop-next.invariant c.loop-next-test.true (omega arith) (omega arith) (omega arith)
    (omega arith)
