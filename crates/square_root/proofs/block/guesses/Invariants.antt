use Rattle.std.proofs.Common.{◌≡◌, ℕ, ◌^◌, ◌<◌, ◌≤◌, length, get_or}
use Rattle.square_root.proofs.block.guesses.Given as goal

abbrev pub invariant-loop-i : goal.invariant-loop-i
invariant-loop-i l = (l.i ≤ 16) × (length l.q ≡ 16) × ((k : ℕ) → k < l.i → get_or l.q k 0 < 2 ^ 24)
