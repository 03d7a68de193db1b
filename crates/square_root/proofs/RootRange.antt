-- The root of a number from 2 ^ -126 up to 2 ^ 123 is finite and above 0. Assumes nothing.
use Rattle.std.proofs.Common.{◌≡◌, ℕ, zero, suc, ◌+◌, ◌-◌, ◌*◌, ◌/◌, ◌^◌, ◌<◌, ◌≤◌, true, false, T, sym, refl, ap, ◌∙◌, subst, le_trans, le_of_eq, lt_of_lt_of_le, lt_of_le_of_lt, mul-le-mul_right, suc-mul, div-lt_iff_lt-mul, mul-le-mul_left, mul-lt-mul_of_pos_right, mul-pos, le-div_iff_mul-le, mul_right_comm, div-mul-le_self, mul_left_comm, arith, lit<, lit≤, pow_pos, pow-add}
use Prim.Native.Nat.{compare}
use native.Mathlib.Nat.{mul-mul-mul_comm, div-div-eq-div-mul}
use lib.Ieee.{Float, nan, inf, fin, binary32, up, down, size, units, nearest}
use lib.Ieee.Digits.{size-lt, size_reaches}
use lib.Ieee.Exact.{units_val}
use lib.Ieee.Fits.{down_pos, nearest-le}
use lib.Ieee.Nearest.{nearest-ge}
use lib.Ieee.Positive.{positive, num, den, positive_of_value}
use Rattle.float.specs.Sqrt.{isqrt, closest_root, root_round, sqrt_of}
use Rattle.square_root.proofs.Squares.{isqrt-root, root_ge, root-lt, square-mono}

-- ---- N is the square of the root in units of the smallest value; k of the root's digits are dropped
module _ (N : ℕ) (lo : 2 ^ 172 ≤ N) (hi : N < 2 ^ 422) where
  whole-lo : 2 ^ 86 ≤ isqrt N
  whole-lo = root_ge N (isqrt N) (2 ^ 86) (isqrt-root N) lo

  whole-hi : isqrt N < 2 ^ 211
  whole-hi = root-lt N (isqrt N) (2 ^ 211) (isqrt-root N) hi

  unit-le : 2 ^ (size (isqrt N) - 24) ≤ isqrt N
  unit-le = size_reaches (isqrt N) (size (isqrt N) - 24) (less (size (isqrt N)) (some (size (isqrt N)) (size-lt (isqrt N))))
    where
      some : (z : ℕ) → isqrt N < 2 ^ z → 0 < z
      some zero h = absurd (no (lt_of_le_of_lt whole-lo h))
        where
          no : 2 ^ 86 < 1 → ⊥
          no h = omega arith
      some (suc z) h = omega arith

      less : (z : ℕ) → 0 < z → z - 24 < z
      less z h = omega arith

  kept-some : (k : ℕ) → 2 ^ k ≤ isqrt N → 0 < isqrt (N / 2 ^ (k + k))
  kept-some k h =
      root_ge (N / 2 ^ (k + k)) (isqrt (N / 2 ^ (k + k))) 1 (isqrt-root (N / 2 ^ (k + k)))
      ((le-div_iff_mul-le (pow_pos (k + k))).1 (le_trans (le_of_eq (one (2 ^ (k + k)) ∙ pow-add 2 k k)) (le_trans (square-mono (2 ^ k) (isqrt N) h) (isqrt-root N).0)))
    where
      one : (x : ℕ) → 1 * 1 * x ≡ x
      one x = omega arith

  kept-le : (k : ℕ) → isqrt (N / 2 ^ (k + k)) * 2 ^ k ≤ isqrt N
  kept-le k =
      let p = isqrt (N / 2 ^ (k + k)) in
      root_ge N (isqrt N) (p * 2 ^ k) (isqrt-root N)
      (le_trans (le_of_eq (mul-mul-mul_comm p (2 ^ k) p (2 ^ k) ∙ ap (λ (x : ℕ). p * p * x) (sym (pow-add 2 k k))))
      (le_trans (mul-le-mul_right (2 ^ (k + k)) (isqrt-root (N / 2 ^ (k + k))).0) (div-mul-le_self N (2 ^ (k + k)))))

  pub unit-positive : (k q : ℕ) → k ≡ size (isqrt N) - 24 → isqrt (N / 2 ^ (k + k)) ≤ q → q ≤ suc (isqrt (N / 2 ^ (k + k))) → T (positive (units binary32 false q k))
  unit-positive k q e l h =
      let u : 2 ^ k ≤ isqrt N = subst (λ (x : ℕ). 2 ^ x ≤ isqrt N) (sym e) unit-le in
      let p = isqrt (N / 2 ^ (k + k)) in
      positive_of_value (units binary32 false q k) (q * 2 ^ k) (2 ^ 149)
      (units_val binary32 false q k (lt_of_le_of_lt (le_trans (mul-le-mul_right (2 ^ k) h) (le_of_eq (suc-mul p (2 ^ k)))) (under (p * 2 ^ k) (2 ^ k) (isqrt N) (2 ^ 211) (2 ^ 277) (kept-le k) u whole-hi (lit≤ tt))))
      (mul-pos (lt_of_lt_of_le (kept-some k u) l) (pow_pos k))
    where
      under : (a b r x y : ℕ) → a ≤ r → b ≤ r → r < x → x + x ≤ y → a + b < y
      under a b r x y h g l e = omega arith

root-range : (w d : ℕ) → 0 < d → d ≤ w * 2 ^ 126 → w ≤ 2 ^ 123 * d → T (positive (root_round binary32 w d))
unfolding root_round closest_root
root-range w d D lo hi =
    let N = w * 2 ^ 298 / d in
    let k = size (isqrt N) - 24 in
    let n-lo : 2 ^ 172 ≤ N = (le-div_iff_mul-le D).1 (le_trans (mul-le-mul_left (2 ^ 172) lo) (le_of_eq (mul_left_comm (2 ^ 172) w (2 ^ 126)))) in
    let n-hi : N < 2 ^ 422 = (div-lt_iff_lt-mul D).1 (lt_of_le_of_lt (le_trans (mul-le-mul_right (2 ^ 298) hi) (le_of_eq (mul_right_comm (2 ^ 123) d (2 ^ 298)))) (mul-lt-mul_of_pos_right (lit< tt) D)) in
    let p = isqrt (w * 2 ^ 298 / (d * 2 ^ (k + k))) in
    let e : isqrt (N / 2 ^ (k + k)) ≡ p = ap isqrt (div-div-eq-div-mul (w * 2 ^ 298) d (2 ^ (k + k))) in
    let o = compare (4 * (w * 2 ^ 298)) ((2 * p + 1) * (2 * p + 1) * (d * 2 ^ (k + k))) in
    unit-positive N n-lo n-hi k (nearest p o) refl (le_trans (le_of_eq e) (nearest-ge p o)) (le_trans (nearest-le p o) (le_of_eq (ap suc (sym e))))

pub root-positive : (x : Float) → T (positive x) → den x ≤ num x * 2 ^ 126 → num x ≤ 2 ^ 123 * den x → T (positive (sqrt_of binary32 x))
unfolding sqrt_of
root-positive nan p lo hi = absurd p
root-positive (inf s) p lo hi = absurd p
root-positive (fin true m e) p lo hi = absurd p
root-positive (fin false zero e) p lo hi = absurd p
root-positive (fin false (suc m) e) p lo hi = root-range (suc m * up e) (down e) (down_pos e) lo hi
