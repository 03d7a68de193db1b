use borrow.Author.Rules.{rules}
use Rattle.vertex_rows.proofs.Turned.{turned_by}
use Rattle.vertex_rows.proofs.vertices.skin_directions.Goals as goal

pub returns : goal.returns
returns c = search (rules, turned_by)
