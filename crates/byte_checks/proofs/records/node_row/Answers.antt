use mathlib.Core.Path.{sym, ◌∙◌}
use borrow.Author.Rules.{rules}
use lib.Seq.{length-take-le}
use Rattle.wire.specs.Bytes.{words_in}
use Rattle.checks.specs.declared.Table.TheVariants as table
use Rattle.byte_checks.proofs.OneRecord.{decoded, node-alone}
use Rattle.byte_checks.proofs.records.node_row.Goals as goal

pub slice_bounds-node_row-end : goal.slice_bounds-node_row-end
slice_bounds-node_row-end c = sym (length-take-le _ _ (search rules))

pub returns : goal.returns
returns c =
    let a = c.args in
    c.node_row.ensures
    ∙ node-alone (words_in a.words.now) a.nodes a.i _ _ c.alone.ensures
    (decoded a.words.now a.nodes table.Nodes a.i _ _ _ c.record_bytes.ensures c.read-n.ensures)
