use Rattle.entries.proofs.Cases.{at_zero, elsewhere}
use Rattle.entries.proofs.matrices.transform_of.Goals as goal

pub returns-then-mark-eq0 : goal.returns-then-mark-eq0
returns-then-mark-eq0 c = cc (at_zero _ _ _ c.if-mark-eq0.true)

pub returns : goal.returns
returns c = cc (elsewhere _ _ _ c.if-mark-eq0.false)
