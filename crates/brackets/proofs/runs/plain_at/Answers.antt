use Rattle.brackets.proofs.RunLaws.{plain_float}
use Rattle.brackets.proofs.runs.plain_at.Goals as goal

pub returns-then-d-le2139095040 : goal.returns-then-d-le2139095040
returns-then-d-le2139095040 c = (c.in_ok-d.ensures, plain_float _ c.if-d-le2139095040.true)
