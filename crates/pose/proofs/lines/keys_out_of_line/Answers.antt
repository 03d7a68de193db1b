use mathlib.Core.Path.{sym, ap, ◌∙◌}
use mathlib.Core.Bool.{Bool}
use native.Mathlib.Omega.{arith}
use borrow.Author.Count.{below_more}
use Rattle.tables.specs.declared.ChannelRow.{ChannelRow}
use Rattle.checks.specs.Drawn.{lent_as}
use Rattle.pose_slots.specs.Channels.{channel_in}
use Rattle.pose.specs.Lines.{out_of_line}
use Rattle.pose.proofs.LineLaws.{any-there, none-there, in-counts}
use Rattle.pose.proofs.lines.keys_out_of_line.Goals as goal

pub returns-then-is_out_of_line : goal.returns-then-is_out_of_line
returns-then-is_out_of_line c own mesh =
    let a = c.args.lent in
    let n = a.header.graph.nodes.count in
    let test : ChannelRow → Bool = λ r. out_of_line n (channel_in a.floats.now r) in
    sym (in-counts (lent_as a.words.now a.floats.now own mesh a.header)
    ∙ any-there a.header.channels.count _ (out_of_line n) c.loop-k.k (omega arith)
    (ap test (sym c.channel_row.ensures) ∙ sym c.is_out_of_line.ensures ∙ c.if-is_out_of_line.true))

pub loop-k-preserved : goal.loop-k-preserved
loop-k-preserved c =
    let a = c.args.lent in
    let test : ChannelRow → Bool = λ r. out_of_line a.header.graph.nodes.count (channel_in a.floats.now r) in (
      omega arith,
      below_more _ _ c.loop-k.invariant.1
          (ap test (sym c.channel_row.ensures) ∙ sym c.is_out_of_line.ensures ∙ c.if-is_out_of_line.false),
    )

pub returns : goal.returns
returns c own mesh =
    let a = c.args.lent in
    sym (in-counts (lent_as a.words.now a.floats.now own mesh a.header)
    ∙ none-there a.header.channels.count _ (out_of_line a.header.graph.nodes.count)
    (λ i h. c.loop-k.invariant.1 i (omega arith)))
