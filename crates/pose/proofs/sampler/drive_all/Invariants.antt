use mathlib.Core.Path.{◌≡◌}
use Prim.Native.Nat.{◌≤◌}
use lib.ListN.{length}
use Rattle.model.specs.Lists.{tabulate}
use Rattle.tables.specs.Records.{channel_row}
use Rattle.pose_slots.specs.Channels.{channel_in}
use Rattle.pose.specs.Encoded.{encoded_words, encoded_floats}
use Rattle.pose.proofs.sampler.drive_all.Given as goal

abbrev pub invariant-loop-k : goal.invariant-loop-k
invariant-loop-k l =
    let h = l.lent.header in
    let ts = tabulate l.k (λ i. channel_in l.lent.floats.now (channel_row l.lent.words.now h.channels i)) in
    (l.k ≤ h.channels.count) × (length l.marks ≡ length l.initial.marks) × (length l.slots ≡ length l.initial.slots)
    × (l.marks ≡ encoded_words l.time h.graph.nodes.count ts l.initial.marks)
    × (l.slots ≡ encoded_floats l.time h.graph.nodes.count ts l.initial.slots)
