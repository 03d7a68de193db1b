use mathlib.Core.Path.{◌≡◌}
use mathlib.Core.Bool.{false}
use Prim.Native.Nat.{ℕ, ◌≤◌, ◌<◌}
use Rattle.wire.specs.Bytes.{words_in, floats_in}
use Rattle.tables.specs.Records.{channel_row}
use Rattle.pose_slots.specs.Channels.{channel_in}
use Rattle.pose.specs.Lines.{out_of_line}
use Rattle.byte_checks.proofs.lines.some_out_of_line.Given as goal

abbrev pub invariant-loop-k : goal.invariant-loop-k
invariant-loop-k l =
    (l.count ≡ l.channels.count) × (l.k ≤ l.count)
    × ((i : ℕ) → i < l.k → out_of_line l.n (channel_in (floats_in l.floats) (channel_row (words_in l.words) l.channels i)) ≡ false)
