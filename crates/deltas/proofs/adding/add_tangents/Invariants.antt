use mathlib.Core.Path.{◌≡◌}
use Prim.Native.Nat.{◌≤◌}
use lib.ListN.{length}
use Rattle.deltas.proofs.AddLaws.{xyz_done}
use Rattle.deltas.proofs.adding.add_tangents.Given as goal

abbrev pub invariant-loop-i : goal.invariant-loop-i
invariant-loop-i l = (l.i ≤ l.n) × (length l.out ≡ length l.initial.out) × (l.out ≡ xyz_done l.w l.initial.out l.deltas l.i)
