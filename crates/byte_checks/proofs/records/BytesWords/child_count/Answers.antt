use mathlib.Core.Path.{ap}
use Rattle.tables.specs.declared.NodeRow.{NodeRow}
use Rattle.byte_checks.proofs.records.BytesWords.child_count.Goals as goal

pub returns : goal.returns
returns c = ap (λ (row : NodeRow). row.children.count) c.node_row-node.ensures
