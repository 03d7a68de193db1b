use mathlib.Core.Path.{◌≡◌}
use lib.ListN.{length}
use lib.Seq.{paste}
use Rattle.pose_slots.proofs.slots.put.Given as goal

abbrev pub invariant-loop-k : goal.invariant-loop-k
invariant-loop-k g l = (length l.v ≡ g.row.N) × (length l.s ≡ length l.initial.s) × (l.s ≡ paste l.initial.s l.at l.v l.k)
