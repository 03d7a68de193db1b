use Rattle.vertex_rows.proofs.RowSteps.{row-changed, row-absent}
use borrow.Author.Rules.{rules}
use Rattle.vertex_rows.proofs.directions.turn_tangent.Goals as goal

pub returns-then-k-tangents : goal.returns-then-k-tangents
returns-then-k-tangents c = search (rules, row-changed)

pub returns-else-k-tangents : goal.returns-else-k-tangents
returns-else-k-tangents c = search (rules, row-absent)
