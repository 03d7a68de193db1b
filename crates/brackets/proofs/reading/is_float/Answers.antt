use borrow.Author.Tests.{le-leb, lt-leb}
use Rattle.brackets.proofs.reading.is_float.Goals as goal

pub returns-then-w-le2139095040 : goal.returns-then-w-le2139095040
returns-then-w-le2139095040 c = simp (le-leb _ _ c.if-w-le2139095040.true)

pub returns : goal.returns
returns c = simp (lt-leb _ _ c.if-w-le2139095040.false)
