use mathlib.Core.Path.{ap, sym, ◌∙◌}
use Rattle.tables.specs.declared.NodeRow.{NodeRow}
use Rattle.checks.specs.declared.Table.{Table}
use Rattle.faults.specs.Faults.{entry_count}
use Rattle.faults.proofs.rows.entry_count.Goals as goal

pub returns-in-Nodes : goal.returns-in-Nodes
returns-in-Nodes c =
    let a = c.args in
    ap (λ (r : NodeRow). r.children.count) c.node_row.ensures
    ∙ ap (λ (k : Table). entry_count a.words.now a.t k a.i) (sym c.in-Nodes.is)
