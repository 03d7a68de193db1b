use Prim.Native.Nat.{◌≤◌}
use Rattle.text_breaks.proofs.lines.spot_behind.Given as goal

abbrev pub invariant-loop-i : goal.invariant-loop-i
invariant-loop-i l = l.s.depth ≤ l.i
