use mathlib.Core.Path.{◌≡◌}
use Prim.Native.Nat.{◌≤◌}
use lib.ListN.{length}
use Rattle.pose.specs.Encoded.{cleared_words, cleared_floats}
use Rattle.pose.proofs.sampler.clear.Given as goal

abbrev pub invariant-loop-i : goal.invariant-loop-i
invariant-loop-i l =
    (l.i ≤ l.n) × (length l.marks ≡ length l.initial.marks) × (length l.slots ≡ length l.initial.slots) × (l.marks ≡ cleared_words l.i l.initial.marks) × (l.slots ≡ cleared_floats l.i l.initial.slots)
