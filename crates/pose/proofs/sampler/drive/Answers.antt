use mathlib.Core.Path.{◌≡◌, sym, ap, ◌∙◌, subst}
use mathlib.Core.Bool.{Bool, false, not, ◌&&◌}
use native.Mathlib.Omega.{arith}
use borrow.Author.Tests.{lt-ltb}
use Rattle.model.specs.Sampling.{even, in_line}
use Rattle.tracks.specs.Tracks.{table_number}
use Rattle.tables.specs.declared.ChannelRow.{ChannelRow}
use Rattle.tables.specs.Tags.{track_for}
use Rattle.pose_slots.specs.Channels.{channel_in}
use Rattle.pose.specs.Lines.{out_of_line}
use Rattle.pose.specs.Encoded.{Driven}
use Rattle.pose.proofs.StepLaws.{was-driven, not-driven}
use Rattle.pose.proofs.sampler.drive.Goals as goal

pub slot_after-slot-requires : goal.slot_after-slot-requires
slot_after-slot-requires c =
    let a = c.args in
    let d = c.requires.drivable in
    let n = a.lent.header.graph.nodes.count in
    let t = channel_in a.lent.floats.now c.channel_row-row.result in
    let e = sym c.channel_row-row.ensures in
    let none = subst (λ (x : ChannelRow). table_number a.lent.floats.now (track_for x) ≡ 0) e (d.0 a.k c.requires.in_table) in
    let in-line = subst (λ (x : ChannelRow). out_of_line n (channel_in a.lent.floats.now x) ≡ false) e (d.2 a.k c.requires.in_table) in
    let line = ap (λ (b : Bool). b && even t && not (in_line t.keys)) (sym (lt-ltb t.target n c.if-i-lent.true)) ∙ in-line in
    (none, d.1, line, omega (arith, d.3, c.if-i-lent.true), omega (arith, c.requires.in_table, d.4))

pub returns-then-i-lent : goal.returns-then-i-lent
returns-then-i-lent c =
    let a = c.args in
    let n = a.lent.header.graph.nodes.count in
    subst (λ (x : ChannelRow). Driven a.time n a.k (channel_in a.lent.floats.now x) a.marks.now a.slots.now
    c.store_pose.new.marks c.store_pose.new.slots)
    c.channel_row-row.ensures
    (was-driven a.time n a.k (channel_in a.lent.floats.now c.channel_row-row.result) a.marks.now a.slots.now _ _ _ _
    c.if-i-lent.true c.slot_after-slot.ensures.0 c.slot_after-slot.ensures.1 c.store_pose.ensures.0 c.store_pose.ensures.1)

pub returns-else-i-lent : goal.returns-else-i-lent
returns-else-i-lent c =
    let a = c.args in
    let n = a.lent.header.graph.nodes.count in
    subst (λ (x : ChannelRow). Driven a.time n a.k (channel_in a.lent.floats.now x) a.marks.now a.slots.now a.marks.now a.slots.now)
    c.channel_row-row.ensures
    (not-driven a.time n a.k (channel_in a.lent.floats.now c.channel_row-row.result) a.marks.now a.slots.now c.if-i-lent.false)
