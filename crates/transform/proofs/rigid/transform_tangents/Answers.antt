use borrow.Author.Rules.{rules}
use Rattle.transform.proofs.Handed.{tangents-turned, tangents-flipped}
use Rattle.transform.proofs.rigid.transform_tangents.Goals as goal

pub returns-then-not-mirror : goal.returns-then-not-mirror
returns-then-not-mirror c = search (rules, tangents-turned)

pub returns : goal.returns
returns c = search (rules, tangents-flipped)
