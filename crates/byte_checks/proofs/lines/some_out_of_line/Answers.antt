use mathlib.Core.Path.{◌≡◌, refl, sym, ap, ◌∙◌, subst}
use native.Mathlib.Omega.{arith}
use borrow.Author.Count.{below_more}
use borrow.Author.Rules.{rules}
use Rattle.wire.specs.Bytes.{words_in, floats_in}
use Rattle.tracks.specs.Tracks.{table_number}
use Rattle.tables.specs.declared.ChannelRow.{ChannelRow}
use Rattle.tables.specs.Records.{channel_row}
use Rattle.tables.specs.Tags.{track_for}
use Rattle.pose_slots.specs.Channels.{channel_in}
use Rattle.pose.specs.Lines.{out_of_line}
use Rattle.pose.proofs.LineLaws.{any-there, none-there}
use Rattle.byte_checks.proofs.lines.some_out_of_line.Goals as goal

pub loop-k-init : goal.loop-k-init
loop-k-init c = (refl, search rules, λ i h. absurd (omega arith))

pub channel_row-requires : goal.channel_row-requires
channel_row-requires c = (c.requires.0, omega arith)

pub is_out_of_line-requires : goal.is_out_of_line-requires
is_out_of_line-requires c =
    subst (λ (r : ChannelRow). table_number (floats_in c.args.floats.now) (track_for r) ≡ 0)
    (sym c.channel_row.ensures) (c.requires.1 c.loop-k.k (omega arith))

pub returns-then-is_out_of_line : goal.returns-then-is_out_of_line
returns-then-is_out_of_line c =
    let told : out_of_line c.args.n (channel_in (floats_in c.args.floats.now) (channel_row (words_in c.args.words.now) c.args.channels c.loop-k.k)) ≡ c.is_out_of_line.result
    = ap (λ (r : ChannelRow). out_of_line c.args.n (channel_in (floats_in c.args.floats.now) r)) (sym c.channel_row.ensures)
    ∙ sym c.is_out_of_line.ensures in
    let a = c.args in
    sym (any-there a.channels.count _ (out_of_line a.n) c.loop-k.k (omega arith)
    (told ∙ c.if-is_out_of_line.true))

pub loop-k-preserved : goal.loop-k-preserved
loop-k-preserved c =
    let told : out_of_line c.args.n (channel_in (floats_in c.args.floats.now) (channel_row (words_in c.args.words.now) c.args.channels c.loop-k.k)) ≡ c.is_out_of_line.result
    = ap (λ (r : ChannelRow). out_of_line c.args.n (channel_in (floats_in c.args.floats.now) r)) (sym c.channel_row.ensures)
    ∙ sym c.is_out_of_line.ensures in
    (refl, omega arith, below_more _ _ c.loop-k.invariant.2 (told ∙ c.if-is_out_of_line.false))

pub returns : goal.returns
returns c =
    let a = c.args in
    sym (none-there a.channels.count _ (out_of_line a.n) (λ i h. c.loop-k.invariant.2 i (omega arith)))
