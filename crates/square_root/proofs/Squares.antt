-- The largest q with q * q ≤ n: `isqrt` is it, and there is one only. Assumes nothing.
use Rattle.std.proofs.Common.{◌≡◌, ℕ, zero, suc, ◌+◌, ◌*◌, ◌/◌, ◌^◌, ◌<◌, ◌≤◌, Bool, true, false, cond, not, T, leb, refl, ap, ◌∙◌, subst, le_trans, lt_of_lt_of_le, le_of_suc-le-suc, le-add_right, mul-le-mul_right, mul_assoc, mul_comm, add-mul, le_antisymm, mul-le-mul_left, mul-lt-mul_of_pos_right, lt_of_not-le, mul-add, not-le_of_lt, mul_left_comm, arith, leb→le, pow_mono, pow-add}
use Prim.Native.Nat.{compare, Ordering}
use lib.Dec.{nleb→lt}
use lib.Ieee.{size, nearest}
use lib.Ieee.Digits.{size-lt}
use Rattle.float.specs.Sqrt.{digit_root, isqrt}
use Rattle.float.proofs.Closest.{Cmp, cmp}

abbrev pub Root : ℕ → ℕ → Type 0
Root n q = (q * q ≤ n) × (n < (q + 1) * (q + 1))

pub square-mono : (a b : ℕ) → a ≤ b → a * a ≤ b * b
square-mono a b h = le_trans (mul-le-mul_left a h) (mul-le-mul_right b h)

-- a root is at least a number whose square is at most n, and below one whose square is above n
pub root_ge : (n q a : ℕ) → Root n q → a * a ≤ n → a ≤ q
root_ge n q a r h = le_of_suc-le-suc (lt_of_not-le (λ (g : suc q ≤ a). not-le_of_lt (lt_of_lt_of_le r.1 (square-mono (q + 1) a (one q a g))) h))
  where
    one : (q a : ℕ) → suc q ≤ a → q + 1 ≤ a
    one q a g = omega arith

pub root-lt : (n q a : ℕ) → Root n q → n < a * a → q < a
root-lt n q a r h = lt_of_not-le (λ (g : a ≤ q). not-le_of_lt h (le_trans (square-mono a q g) r.0))

pub root-unique : (n p q : ℕ) → Root n p → Root n q → p ≡ q
root-unique n p q r s = le_antisymm (root_ge n q p s r.0) (root_ge n p q r s.0)

-- ---- `isqrt`
pub four : (p : ℕ) → 2 * p * (2 * p) ≡ p * p * 4
four p = simp (mul_assoc, mul_comm, mul_left_comm) (omega arith)

two-more : (p : ℕ) → (2 * p + 1 + 1) * (2 * p + 1 + 1) ≡ (p + 1) * (p + 1) * 4
two-more p = ap (λ (x : ℕ). x * x) (twice p) ∙ four (p + 1)
  where
    twice : (p : ℕ) → 2 * p + 1 + 1 ≡ 2 * (p + 1)
    twice p = omega arith

quarter-lt : (k n : ℕ) → n < 2 ^ (suc k + suc k) → n / 4 < 2 ^ (k + k)
quarter-lt k n h = less (2 ^ (k + k)) (subst (λ (x : ℕ). n < x) (ap (λ (x : ℕ). 2 ^ x) (out k) ∙ pow-add 2 2 (k + k)) h)
  where
    out : (k : ℕ) → suc k + suc k ≡ 2 + (k + k)
    out k = omega arith

    less : (p : ℕ) → n < 4 * p → n / 4 < p
    less p h = omega arith

digit-root : (k n : ℕ) → n < 2 ^ (k + k) → Root n (digit_root k n)
unfolding digit_root
digit-root zero n h = first n h
  where
    first : (n : ℕ) → n < 1 → (0 * 0 ≤ n) × (n < (0 + 1) * (0 + 1))
    first n h = omega arith
digit-root (suc k) n h =
    let p = digit_root k (n / 4) in
    let r = digit-root k (n / 4) (quarter-lt k n h) in
    go (leb ((2 * p + 1) * (2 * p + 1)) n) p (leb→le ((2 * p + 1) * (2 * p + 1)) n) (nleb→lt ((2 * p + 1) * (2 * p + 1)) n) r
  where
    lower : (s t : ℕ) → s ≤ n / 4 → t ≡ s * 4 → t ≤ n
    lower s t h e = omega arith

    upper : (s t : ℕ) → n / 4 < s → t ≡ s * 4 → n < t
    upper s t h e = omega arith

    go : (b : Bool) (p : ℕ) → (T b → (2 * p + 1) * (2 * p + 1) ≤ n) → (T (not b) → n < (2 * p + 1) * (2 * p + 1)) → Root (n / 4) p → Root n (cond b (2 * p + 1) (2 * p))
    go true p l g r = (l tt, upper ((p + 1) * (p + 1)) ((2 * p + 1 + 1) * (2 * p + 1 + 1)) r.1 (two-more p))
    go false p l g r = (lower (p * p) (2 * p * (2 * p)) r.0 (four p), g tt)

pub isqrt-root : (n : ℕ) → Root n (isqrt n)
unfolding isqrt
isqrt-root n = digit-root (size n) n (lt_of_lt_of_le (size-lt n) (pow_mono (le-add_right (size n) (size n))))

pub is-isqrt : (n q : ℕ) → q * q ≤ n → n < (q + 1) * (q + 1) → q ≡ isqrt n
is-isqrt n q a b = root-unique n q (isqrt n) (a, b) (isqrt-root n)

-- ---- `compare`
pub cmp-unique : (o p : Ordering) (a b : ℕ) → Cmp o a b → Cmp p a b → o ≡ p
cmp-unique Ordering.lt Ordering.lt a b x y = refl
cmp-unique Ordering.eq Ordering.eq a b x y = refl
cmp-unique Ordering.gt Ordering.gt a b x y = refl
cmp-unique Ordering.lt Ordering.eq a b x y = absurd (no x y)
  where
    no : a < b → a ≡ b → ⊥
    no x y = omega arith
cmp-unique Ordering.eq Ordering.lt a b x y = absurd (no y x)
  where
    no : a < b → a ≡ b → ⊥
    no x y = omega arith
cmp-unique Ordering.lt Ordering.gt a b x y = absurd (no x y)
  where
    no : a < b → b < a → ⊥
    no x y = omega arith
cmp-unique Ordering.gt Ordering.lt a b x y = absurd (no y x)
  where
    no : a < b → b < a → ⊥
    no x y = omega arith
cmp-unique Ordering.eq Ordering.gt a b x y = absurd (no x y)
  where
    no : a ≡ b → b < a → ⊥
    no x y = omega arith
cmp-unique Ordering.gt Ordering.eq a b x y = absurd (no y x)
  where
    no : a ≡ b → b < a → ⊥
    no x y = omega arith

cmp-times : (o : Ordering) (a b d : ℕ) → 0 < d → Cmp o a b → Cmp o (a * d) (b * d)
cmp-times Ordering.lt a b d p h = mul-lt-mul_of_pos_right h p
cmp-times Ordering.eq a b d p h = ap (λ (x : ℕ). x * d) h
cmp-times Ordering.gt a b d p h = mul-lt-mul_of_pos_right h p

pub compare-times : (a b d : ℕ) → 0 < d → compare (a * d) (b * d) ≡ compare a b
compare-times a b d p = cmp-unique (compare (a * d) (b * d)) (compare a b) (a * d) (b * d) (cmp (a * d) (b * d)) (cmp-times (compare a b) a b d p (cmp a b))

-- ---- a whole number n is nearer to q + 1 than to its root q where it is above q * q + q, and there is no tie
odd-square : (q : ℕ) → (2 * q + 1) * (2 * q + 1) ≡ 4 * (q * q + q) + 1
odd-square q = simp (mul-add, add-mul, mul_assoc, mul_comm, mul_left_comm) (omega arith)

pub stays : (n q : ℕ) → n ≤ q * q + q → nearest q (compare (4 * n) ((2 * q + 1) * (2 * q + 1))) ≡ q
stays n q h = ap (λ (o : Ordering). nearest q o) (cmp-unique (compare (4 * n) ((2 * q + 1) * (2 * q + 1))) Ordering.lt (4 * n) ((2 * q + 1) * (2 * q + 1)) (cmp (4 * n) ((2 * q + 1) * (2 * q + 1))) (less (q * q + q) ((2 * q + 1) * (2 * q + 1)) h (odd-square q)))
  where
    less : (s t : ℕ) → n ≤ s → t ≡ 4 * s + 1 → 4 * n < t
    less s t h e = omega arith

pub moves : (n q : ℕ) → q * q + q < n → nearest q (compare (4 * n) ((2 * q + 1) * (2 * q + 1))) ≡ suc q
moves n q h = ap (λ (o : Ordering). nearest q o) (cmp-unique (compare (4 * n) ((2 * q + 1) * (2 * q + 1))) Ordering.gt (4 * n) ((2 * q + 1) * (2 * q + 1)) (cmp (4 * n) ((2 * q + 1) * (2 * q + 1))) (more (q * q + q) ((2 * q + 1) * (2 * q + 1)) h (odd-square q)))
  where
    more : (s t : ℕ) → s < n → t ≡ 4 * s + 1 → t < 4 * n
    more s t h e = omega arith
