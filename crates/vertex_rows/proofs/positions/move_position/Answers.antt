use Rattle.vertex_rows.proofs.RowSteps.{row-changed, row-absent}
use borrow.Author.Rules.{rules}
use Rattle.vertex_rows.proofs.positions.move_position.Goals as goal

pub returns-then-k-positions : goal.returns-then-k-positions
returns-then-k-positions c = search (rules, row-changed)

pub returns-else-k-positions : goal.returns-else-k-positions
returns-else-k-positions c = search (rules, row-absent)
