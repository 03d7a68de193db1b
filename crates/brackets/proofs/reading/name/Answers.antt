use mathlib.Core.Path.{sym, ◌∙◌}
use Rattle.brackets.proofs.ReadingLaws.{name-there, no_name}
use Rattle.brackets.proofs.reading.name.Goals as goal

pub returns-then-byte_at-eq40 : goal.returns-then-byte_at-eq40
returns-then-byte_at-eq40 c =
    name-there (sym c.byte_at.ensures ∙ c.if-byte_at-eq40.true) c.behind.ensures c.word.ensures

pub returns : goal.returns
returns c = no_name (λ e. c.if-byte_at-eq40.false (c.byte_at.ensures ∙ e))
