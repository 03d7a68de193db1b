use mathlib.Core.Path.{sym}
use Rattle.wire.proofs.Reading.{count}
use Rattle.byte_checks.proofs.records.BytesWords.count.Goals as goal

pub returns : goal.returns
returns c = sym (count (λ w. w) c.args.self.words.now)
