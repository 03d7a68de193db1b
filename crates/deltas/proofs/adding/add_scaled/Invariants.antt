use mathlib.Core.Path.{◌≡◌}
use Prim.Native.Nat.{◌≤◌}
use lib.Ieee.{nan}
use lib.ListN.{length}
use Rattle.deltas.proofs.Floatwise.{done_to}
use Rattle.deltas.proofs.AddLaws.{scaled}
use Rattle.deltas.proofs.adding.add_scaled.Given as goal

abbrev pub invariant-loop-k : goal.invariant-loop-k
invariant-loop-k l = (l.k ≤ l.n) × (length l.out ≡ length l.initial.out) × (l.out ≡ done_to (scaled l.w l.deltas) nan l.initial.out l.k)
