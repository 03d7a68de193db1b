use mathlib.Core.Path.{◌∙◌}
use native.Mathlib.Omega.{arith}
use Rattle.model.specs.Lists.{tabulate}
use Rattle.tables.specs.Records.{channel_row}
use Rattle.pose_slots.specs.Channels.{channel_in}
use Rattle.pose.proofs.ClearLaws.{cleared-words, cleared-floats, over-words, over-floats}
use Rattle.pose.proofs.calls.pose_all.Goals as goal

pub drive_all-requires : goal.drive_all-requires
drive_all-requires c =
    let a = c.args in
    let n = a.lent.header.graph.nodes.count in
    record { drivable = (c.requires.0, c.requires.1, c.requires.2, omega (arith, c.requires.3), c.requires.4); marks_value = (cleared-words n a.marks.now _ c.clear.ensures.0, cleared-floats n a.slots.now _ c.clear.ensures.1) }

pub returns : goal.returns
returns c =
    let a = c.args in
    let n = a.lent.header.graph.nodes.count in
    let ts = tabulate a.lent.header.channels.count (λ k. channel_in a.lent.floats.now (channel_row a.lent.words.now a.lent.header.channels k)) in (
      c.drive_all.ensures.0 ∙ over-words a.time n ts a.marks.now _ c.clear.ensures.0,
      c.drive_all.ensures.1 ∙ over-floats a.time n ts a.slots.now _ c.clear.ensures.1,
    )
