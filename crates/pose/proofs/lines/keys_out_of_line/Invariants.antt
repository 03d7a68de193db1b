use mathlib.Core.Path.{◌≡◌}
use mathlib.Core.Bool.{false}
use Prim.Native.Nat.{ℕ, ◌≤◌, ◌<◌}
use Rattle.tables.specs.Records.{channel_row}
use Rattle.pose_slots.specs.Channels.{channel_in}
use Rattle.pose.specs.Lines.{out_of_line}
use Rattle.pose.proofs.lines.keys_out_of_line.Given as goal

abbrev pub invariant-loop-k : goal.invariant-loop-k
invariant-loop-k l =
    let h = l.lent.header in
    (l.k ≤ h.channels.count)
    × ((i : ℕ) → i < l.k
    → out_of_line h.graph.nodes.count (channel_in l.lent.floats.now (channel_row l.lent.words.now h.channels i)) ≡ false)
