use Rattle.std.proofs.Common.{◌≡◌, ℕ, ◌+◌, ◌-◌, ◌*◌, ◌/◌, ◌%◌, ◌^◌, ◌<◌, ◌≤◌, ap, ◌∙◌, one-mul, arith, lit<, pow_pos, pow_mono, shl_exact}
use lib.Bits.{bit_and, and_mask, and_le_r}
use Rattle.float.proofs.Closest.{nearest-shift, halves}
use Rattle.float.proofs.convert.nearest_shift.Goals as goal

half : (h : ℕ) → h < 64 → 1 * 2 ^ (h - 1) % 2 ^ 64 ≡ 2 ^ (h - 1)
half h l = shl_exact 1 (h - 1) 64 (lit< tt) (fine h l) ∙ one-mul (2 ^ (h - 1))
  where
    fine : (h : ℕ) → h < 64 → 1 + (h - 1) ≤ 64
    fine h l = omega arith

half_le : (h : ℕ) → h < 64 → 2 ^ (h - 1) ≤ 2 ^ 63
half_le h l = pow_mono (fine h l)
  where
    fine : (h : ℕ) → h < 64 → h - 1 ≤ 63
    fine h l = omega arith

pub overflow_sub-result-2 : goal.overflow_sub-result-2
overflow_sub-result-2 c = omega (arith, half c.args.h c.requires.2, pow_pos (c.args.h - 1))

pub overflow_add-result : goal.overflow_add-result
overflow_add-result c = omega (arith, half c.args.h c.requires.2, half_le c.args.h c.requires.2)

pub overflow_add-result-2 : goal.overflow_add-result-2
overflow_add-result-2 c = omega (arith, half c.args.h c.requires.2, half_le c.args.h c.requires.2, pow_pos (c.args.h - 1), and_le_r (c.args.n / 2 ^ c.args.h) 1)

pub returns : goal.returns
returns c =
    let n = c.args.n in
    let h = c.args.h in
    ap (λ (x : ℕ). (n + (x - 1) + bit_and (n / 2 ^ h) 1) / 2 ^ h) (half h c.requires.2)
    ∙ ap (λ (x : ℕ). (n + (2 ^ (h - 1) - 1) + x) / 2 ^ h) (and_mask (n / 2 ^ h) 1)
    ∙ nearest-shift n (2 ^ h) (2 ^ (h - 1)) (halves h c.requires.1) (pow_pos (h - 1))
