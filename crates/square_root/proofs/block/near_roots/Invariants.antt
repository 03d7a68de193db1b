use Rattle.std.proofs.Common.{ℕ, ◌^◌, ◌<◌, ◌≤◌, get_or}
use lib.Ieee.{nan, binary32, to_bits}
use Rattle.float.specs.Patterns.{Near}
use Rattle.square_root.proofs.block.near_roots.Given as goal

abbrev pub invariant-loop-i : goal.invariant-loop-i
invariant-loop-i l = (l.i ≤ 16) × (2 ^ 63 ≤ l.d → (k : ℕ) → k < l.i → Near (to_bits binary32 (get_or l.a k nan)) (get_or l.q k 0))
