use Rattle.vertex_rows.proofs.RowSteps.{row-changed, row-absent}
use borrow.Author.Rules.{rules}
use Rattle.vertex_rows.proofs.directions.turn_unit.Goals as goal

pub returns-then-k-normals : goal.returns-then-k-normals
returns-then-k-normals c = search (rules, row-changed)

pub returns-else-k-normals : goal.returns-else-k-normals
returns-else-k-normals c = search (rules, row-absent)
