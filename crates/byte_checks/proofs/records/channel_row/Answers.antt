use mathlib.Core.Path.{sym, ◌∙◌}
use borrow.Author.Rules.{rules}
use lib.Seq.{length-take-le}
use Rattle.wire.specs.Bytes.{words_in}
use Rattle.checks.specs.declared.Table.TheVariants as table
use Rattle.byte_checks.proofs.OneRecord.{decoded, channel-alone}
use Rattle.byte_checks.proofs.records.channel_row.Goals as goal

pub slice_bounds-channel_row-end : goal.slice_bounds-channel_row-end
slice_bounds-channel_row-end c = sym (length-take-le _ _ (search rules))

pub returns : goal.returns
returns c =
    let a = c.args in
    c.channel_row.ensures
    ∙ channel-alone (words_in a.words.now) a.channels a.i _ _ c.alone.ensures
    (decoded a.words.now a.channels table.Channels a.i _ _ _ c.record_bytes.ensures
    c.read-n.ensures)
