use native.Mathlib.Omega.{arith}
use Rattle.brackets.proofs.ReadingLaws.{word-start, word_more, word-done, word-ends, word_out, grown}
use Rattle.brackets.proofs.reading.word.Goals as goal

pub loop-next-init : goal.loop-next-init
loop-next-init c = word-start _ _ _

pub returns-then-b-lt48 : goal.returns-then-b-lt48
returns-then-b-lt48 c =
    word-done c.loop-next.invariant (word-ends _ _ _ _ c.loop-next-test.true c.if-b-lt48.true)

pub overflow_mul-value : goal.overflow_mul-value
overflow_mul-value c =
    record { fits = omega (arith, grown c.loop-next.value _ c.base_of-base.ensures.1) }

pub overflow_add-value : goal.overflow_add-value
overflow_add-value c =
    omega (arith, c.digit.ensures.1, grown c.loop-next.value _ c.base_of-base.ensures.1)

pub loop-next-preserved : goal.loop-next-preserved
loop-next-preserved c =
    word_more c.loop-next.invariant _ _ c.loop-next-test.true c.if-b-lt48.false c.base_of-base.ensures.0
    c.digit.ensures.0

pub returns : goal.returns
returns c = word-done c.loop-next.invariant (word_out _ _ _ _ c.loop-next-test.false)
