use Rattle.std.proofs.Common.{◌≡◌, ◌≤◌, ◌&&◌, eqb, length, drop}
use Rattle.square_root.specs.Normal.{all_normal}
use Rattle.square_root.proofs.block.count_outside.Given as goal

abbrev pub invariant-loop-i : goal.invariant-loop-i
invariant-loop-i l = (l.i ≤ 16) × (l.n ≤ l.i) × (length l.a ≡ 16) × (eqb l.n 0 && all_normal (drop l.i l.a) ≡ all_normal l.a)
