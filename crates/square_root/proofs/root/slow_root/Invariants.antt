use Rattle.std.proofs.Common.{◌≡◌, ℕ, ◌+◌, ◌*◌, ◌^◌, ◌<◌, ◌≤◌}
use Rattle.square_root.proofs.root.slow_root.Given as goal

abbrev pub Inv : ℕ → ℕ → ℕ → Type 0
Inv n q d = ((i : ℕ) × (d ≡ 2 ^ i)) × (q * q ≤ n) × (n < (q + d) * (q + d)) × (q + d ≤ 2 ^ 24)

abbrev pub invariant-loop-d : goal.invariant-loop-d
invariant-loop-d l = Inv l.n l.q l.d

abbrev pub decreases-loop-d : goal.decreases-loop-d
decreases-loop-d l = l.d
