use Rattle.brackets.proofs.ReadingLaws.{behind-inside, behind-end}
use Rattle.brackets.proofs.reading.behind.Goals as goal

pub returns-then-i-text : goal.returns-then-i-text
returns-then-i-text c = behind-inside c.if-i-text.true

pub returns-else-i-text : goal.returns-else-i-text
returns-else-i-text c = behind-end c.if-i-text.false
