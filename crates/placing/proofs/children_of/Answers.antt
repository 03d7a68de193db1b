use mathlib.Core.Path.{ap, ◌∙◌}
use Rattle.tables.specs.declared.NodeRow.{NodeRow}
use Rattle.tables.specs.Decoded.{span_in}
use Rattle.placing.proofs.children_of.Goals as goal

pub returns : goal.returns
returns c =
    c.words_in.ensures
    ∙ ap (λ (r : NodeRow). span_in c.args.l.words.now r.children 1) c.node_row-row.ensures
