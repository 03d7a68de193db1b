-- The normal numbers below 10 ^ 37: their bit patterns, and that their roots are finite and above 0. Assumes nothing.
use Rattle.std.proofs.Common.{◌≡◌, ℕ, zero, suc, ◌+◌, ◌-◌, ◌*◌, ◌/◌, ◌^◌, ◌<◌, ◌≤◌, Bool, true, false, not, ◌||◌, T, List, [], ◌∷◌, length, get_or, sym, refl, ap, ◌∙◌, subst, true≢false, le_trans, le_of_eq, le_of_suc-le-suc, lt_of_le_of_lt, mul-le-mul_right, div-lt_iff_lt-mul, mul-le-mul_left, mul-lt-mul_of_pos_right, mul-pos, le-div_iff_mul-le, zero-mul, mul-one, mul_right_comm, div-one, mul_left_comm, arith, lit<, lit≤, ltb→lt, pow_pos, lt-ltb}
use lib.Ieee.{Float, nan, inf, fin, up, down, size, binary32, is_nan, le, lt, eq, to_bits, of_bits}
use lib.Ieee.Bits.{is_true}
use lib.Ieee.Digits.{size-le}
use lib.Ieee.Fits.{and_l, and_r, up_pos, down_pos, kept-lt}
use lib.Ieee.Scale.{finite}
use lib.Ieee.Positive.{positive, num, den, between, le→cross}
use Rattle.float.specs.F32.{zero32}
use Rattle.float.specs.Sqrt.{sqrt_of}
use Rattle.square_root.proofs.RootRange.{root-positive}
use Rattle.square_root.specs.Normal.{smallest_normal, ten_to37, is_normal, all_normal}

-- ---- the two ends
small-positive : T (positive smallest_normal)
unfolding of_bits
small-positive = tt

large-positive : T (positive ten_to37)
unfolding of_bits
large-positive = tt

pub large-number : T (not (is_nan ten_to37))
unfolding is_nan of_bits
large-number = tt

small_is : (num smallest_normal ≡ 1) × (den smallest_normal ≡ 2 ^ 126)
unfolding of_bits
small_is = (refl, refl)

large_is : (num ten_to37 ≤ 2 ^ 123) × (den ten_to37 ≡ 1)
unfolding of_bits
large_is = (lit≤ tt, refl)

-- ---- a number between them
le_of_lt : (x y : Float) → T (lt x y) → T (le x y)
unfolding le
le_of_lt x y = left (lt x y) (eq x y)
  where
    left : (a b : Bool) → T a → T (a || b)
    left true b t = tt
    left false b t = absurd t

module _ (x : Float) (h : is_normal x ≡ true) where
  low : T (le smallest_normal x)
  low = and_l (le smallest_normal x) (lt x ten_to37) (subst T (sym h) tt)

  under : lt x ten_to37 ≡ true
  under = is_true (lt x ten_to37) (and_r (le smallest_normal x) (lt x ten_to37) (subst T (sym h) tt))

  high : T (le x ten_to37)
  high = le_of_lt x ten_to37 (and_r (le smallest_normal x) (lt x ten_to37) (subst T (sym h) tt))

  is_positive : T (positive x)
  is_positive = between smallest_normal x ten_to37 small-positive large-positive low high

  from : den x ≤ num x * 2 ^ 126
  from =
      le_trans (le_of_eq (sym (ap (λ (y : ℕ). y * den x) small_is.0 ∙ one (den x))))
      (le_trans (le→cross smallest_normal x small-positive is_positive low) (le_of_eq (ap (λ (y : ℕ). num x * y) small_is.1)))
    where
      one : (y : ℕ) → 1 * y ≡ y
      one y = omega arith

  upto : num x ≤ 2 ^ 123 * den x
  upto =
      le_trans (le_of_eq (sym (ap (λ (y : ℕ). num x * y) large_is.1 ∙ mul-one (num x))))
      (le_trans (le→cross x ten_to37 is_positive large-positive high) (mul-le-mul_right (den x) large_is.0))

-- ---- its pattern
-- as `to_bits` has it: n of the smallest values
fields : (n : ℕ) → 2 ^ 23 ≤ n → n < 2 ^ 273 → (2 ^ 23 ≤ 0 + (size n - 24) * 2 ^ 23 + n / 2 ^ (size n - 24)) × (0 + (size n - 24) * 2 ^ 23 + n / 2 ^ (size n - 24) < 255 * 2 ^ 23)
fields n lo hi = (least (size n - 24), most (size n) (n / 2 ^ (size n - 24)) (size-le n 273 hi) (kept-lt 24 n))
  where
    least : (k : ℕ) → 2 ^ 23 ≤ 0 + k * 2 ^ 23 + n / 2 ^ k
    least zero = subst (λ (y : ℕ). 2 ^ 23 ≤ 0 + 0 * 2 ^ 23 + y) (sym (div-one n)) (omega arith)
    least (suc k) = some k (n / 2 ^ suc k)
      where
        some : (k y : ℕ) → 2 ^ 23 ≤ 0 + suc k * 2 ^ 23 + y
        some k y = omega arith

    most : (z y : ℕ) → z ≤ 273 → y < 2 ^ 24 → 0 + (z - 24) * 2 ^ 23 + y < 255 * 2 ^ 23
    most z y h g = omega arith

parts : (w d : ℕ) → 0 < d → d ≤ w * 2 ^ 126 → w ≤ 2 ^ 123 * d → (2 ^ 23 ≤ w * 2 ^ 149 / d) × (w * 2 ^ 149 / d < 2 ^ 273)
parts w d D lo hi = (
  (le-div_iff_mul-le D).1 (le_trans (mul-le-mul_left (2 ^ 23) lo) (le_of_eq (mul_left_comm (2 ^ 23) w (2 ^ 126)))),
  (div-lt_iff_lt-mul D).1 (lt_of_le_of_lt (le_trans (mul-le-mul_right (2 ^ 149) hi) (le_of_eq (mul_right_comm (2 ^ 123) d (2 ^ 149)))) (mul-lt-mul_of_pos_right (lit< tt) D)),
)

of_parts : (x : Float) → T (positive x) → den x ≤ num x * 2 ^ 126 → num x ≤ 2 ^ 123 * den x → (2 ^ 23 ≤ to_bits binary32 x) × (to_bits binary32 x < 255 * 2 ^ 23)
unfolding to_bits
of_parts nan p lo hi = absurd p
of_parts (inf s) p lo hi = absurd p
of_parts (fin true m e) p lo hi = absurd p
of_parts (fin false m e) p lo hi = let w = parts (m * up e) (down e) (down_pos e) lo hi in fields (m * up e * 2 ^ 149 / down e) w.0 w.1

pub normal-bits : (x : Float) → is_normal x ≡ true → (2 ^ 23 ≤ to_bits binary32 x) × (to_bits binary32 x < 255 * 2 ^ 23)
normal-bits x h = of_parts x (is_positive x h) (from x h) (upto x h)

pub below-not-nan : (x y : Float) → lt x y ≡ true → T (not (is_nan x))
unfolding lt is_nan
below-not-nan nan y e = absurd (true≢false (sym e))
below-not-nan (inf s) y e = tt
below-not-nan (fin s m d) y e = tt

pub normal-number : (x : Float) → is_normal x ≡ true → T (not (is_nan x))
normal-number x h = below-not-nan x ten_to37 (under x h)

-- ---- its root
above_zero : (x : Float) → T (positive x) → (finite x ≡ true) × (lt zero32 x ≡ true)
unfolding lt of_bits
above_zero nan p = absurd p
above_zero (inf s) p = absurd p
above_zero (fin true m e) p = absurd p
above_zero (fin false m e) p = (refl, lt-ltb (0 * 1 * down e) (m * up e * 1) (subst (λ (y : ℕ). y < m * up e * 1) (sym (zero-mul (down e))) (mul-pos (mul-pos (ltb→lt 0 m p) (up_pos e)) (pow_pos 0))))

pub normal-root : (x : Float) → is_normal x ≡ true → (finite (sqrt_of binary32 x) ≡ true) × (lt zero32 (sqrt_of binary32 x) ≡ true)
normal-root x h = above_zero (sqrt_of binary32 x) (root-positive x (is_positive x h) (from x h) (upto x h))

-- ---- the numbers of a block
pub each-normal : (l : List Float) → all_normal l ≡ true → (i : ℕ) → i < length l → is_normal (get_or l i nan) ≡ true
unfolding all_normal
each-normal [] h i g = absurd (none i g)
  where
    none : (i : ℕ) → i < 0 → ⊥
    none i g = omega arith
each-normal (x ∷ l) h zero g = is_true (is_normal x) (and_l (is_normal x) (all_normal l) (subst T (sym h) tt))
each-normal (x ∷ l) h (suc i) g = each-normal l (is_true (all_normal l) (and_r (is_normal x) (all_normal l) (subst T (sym h) tt))) i (le_of_suc-le-suc g)
