use borrow.Author.Rules.{rules}
use Rattle.vertex_rows.proofs.Turned.{normal-left}
use Rattle.vertex_rows.proofs.directions.turn_normal.Goals as goal

pub returns-in_default : goal.returns-in_default
returns-in_default c = search (rules, normal-left)
