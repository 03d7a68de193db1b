use Rattle.std.proofs.Common.{ℕ, ◌*◌, ◌/◌, ◌%◌, ◌^◌, ◌≤◌, T, sym, subst, arith}
use lib.Bits.{and_high}
use lib.Ieee.{binary32, to_bits}
use Rattle.float.proofs.Signs.{mag-le, number_ok}
use Rattle.square_root.proofs.block.high.Goals as goal

pub float_from_bits-result : goal.float_from_bits-result
float_from_bits-result c =
    let b = to_bits binary32 c.args.s in
    number_ok _ (subst (λ (x : ℕ). x ≤ 255 * 2 ^ 23) (sym (and_high b 19 12)) (cut b (mag-le binary32 c.args.s (subst T (sym c.well_formed.0.1) tt) c.requires)))
  where
    cut : (b : ℕ) → b % 2 ^ 31 ≤ 255 * 2 ^ 23 → b / 2 ^ 12 % 2 ^ 19 * 2 ^ 12 ≤ 255 * 2 ^ 23
    cut b h = omega arith
