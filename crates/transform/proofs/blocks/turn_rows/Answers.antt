use borrow.Author.Rules.{rules}
use Rattle.transform.proofs.Blocked.{blocks-and-rest}
use Rattle.transform.proofs.blocks.turn_rows.Goals as goal

pub returns : goal.returns
returns c = search (rules, blocks-and-rest)
