use mathlib.Core.Path.{◌≡◌}
use Prim.Native.Nat.{◌*◌, ◌/◌, ◌≤◌}
use lib.Ieee.{nan}
use lib.ListN.{length}
use Rattle.deltas.proofs.Floatwise.{done_to}
use Rattle.deltas.proofs.AddLaws.{mixed_float}
use Rattle.deltas.proofs.adding.add_between.Given as goal

abbrev pub invariant-loop-k : goal.invariant-loop-k
invariant-loop-k l =
    (l.k ≤ l.n) × (length l.out ≡ length l.initial.out) × (l.out ≡ done_to (mixed_float l.t l.low (length l.low / 3 * 3) l.high (length l.high / 3 * 3)) nan l.initial.out l.k)
