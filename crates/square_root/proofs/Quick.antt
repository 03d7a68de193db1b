-- A whole number within a half of the root of n is the rounded root; and the pattern that it makes, for a normal f32. Assumes nothing.
use Rattle.std.proofs.Common.{◌≡◌, ℕ, zero, suc, ◌+◌, ◌-◌, ◌*◌, ◌/◌, ◌%◌, ◌^◌, ◌<◌, ◌≤◌, Bool, true, false, not, T, leb, sym, refl, ap, ◌∙◌, subst, mul_comm, add-mul, mul-add, arith, leb→le}
use lib.Dec.{nleb→lt}
use Prim.Native.Nat.{compare}
use lib.Ieee.{nearest}
use Rattle.float.specs.Sqrt.{isqrt}
use Rattle.float.specs.Patterns.{root_pattern, Rooted, number_of}
use Rattle.square_root.proofs.Squares.{is-isqrt, stays, moves}
use Rattle.square_root.proofs.Rooting.{rounded, at-normal}

next-square : (p : ℕ) → (p + 1) * (p + 1) ≡ p * p + 2 * p + 1
next-square p = simp (mul-add, add-mul, mul_comm) (omega arith)

suc-square : (p : ℕ) → suc p * suc p ≡ p * p + 2 * p + 1
suc-square p = ap (λ (x : ℕ). x * x) (one p) ∙ next-square p
  where
    one : (p : ℕ) → suc p ≡ p + 1
    one p = omega arith

-- the root is q
at-root : (n q : ℕ) → q * q ≤ n → n ≤ q * q + q → rounded n ≡ q
at-root n q lo hi =
    let e : q ≡ isqrt n = is-isqrt n q lo (less (q * q) ((q + 1) * (q + 1)) hi (next-square q)) in
    subst (λ (x : ℕ). nearest x (compare (4 * n) ((2 * x + 1) * (2 * x + 1))) ≡ q) e (stays n q hi)
  where
    less : (s t : ℕ) → n ≤ s + q → t ≡ s + 2 * q + 1 → n < t
    less s t h e = omega arith

-- the root is the number before q
below_root : (n p : ℕ) → p * p + p < n → n < suc p * suc p → rounded n ≡ suc p
below_root n p lo hi =
    let e : p ≡ isqrt n = is-isqrt n p (more (p * p) lo) (subst (λ (x : ℕ). n < x) (suc-square p ∙ sym (next-square p)) hi) in
    subst (λ (x : ℕ). nearest x (compare (4 * n) ((2 * x + 1) * (2 * x + 1))) ≡ suc p) e (moves n p lo)
  where
    more : (s : ℕ) → s + p < n → s ≤ n
    more s h = omega arith

pub half-test : (n q : ℕ) → q * q < n + q → n ≤ q * q + q → rounded n ≡ q
half-test n zero lo hi = at-root n 0 (zero-le-all n) hi
  where
    zero-le-all : (n : ℕ) → 0 * 0 ≤ n
    zero-le-all n = omega arith
half-test n (suc p) lo hi = go (leb (suc p * suc p) n) (leb→le (suc p * suc p) n) (nleb→lt (suc p * suc p) n)
  where
    far : (s t : ℕ) → t < n + suc p → t ≡ s + 2 * p + 1 → s + p < n
    far s t h e = omega arith

    go : (b : Bool) → (T b → suc p * suc p ≤ n) → (T (not b) → n < suc p * suc p) → rounded n ≡ suc p
    go true l g = at-root n (suc p) (l tt) hi
    go false l g = below_root n p (far (p * p) (suc p * suc p) lo (suc-square p)) (g tt)

-- ---- as the code has it
factor : (a : ℕ) → 2 ^ 24 - a / 2 ^ 23 % 2 * 2 ^ 23 ≡ 2 ^ (23 + (a / 2 ^ 23 + 125) % 2)
factor a = go (a / 2 ^ 23 % 2) ((a / 2 ^ 23 + 125) % 2) (other (a / 2 ^ 23)) (small (a / 2 ^ 23))
  where
    other : (x : ℕ) → (x + 125) % 2 ≡ 1 - x % 2
    other x = omega arith

    small : (x : ℕ) → x % 2 < 2
    small x = omega arith

    no : (x : ℕ) → suc (suc x) < 2 → ⊥
    no x h = omega arith

    go : (x y : ℕ) → y ≡ 1 - x → x < 2 → 2 ^ 24 - x * 2 ^ 23 ≡ 2 ^ (23 + y)
    go zero y e h = ap (λ (z : ℕ). 2 ^ (23 + z)) (sym e)
    go (suc zero) y e h = ap (λ (z : ℕ). 2 ^ (23 + z)) (sym e)
    go (suc (suc x)) y e h = absurd (no x h)

exponent : (a : ℕ) → (a + 1048576000) / 2 ^ 24 ≡ (a / 2 ^ 23 + 125) / 2
exponent a = omega arith

pattern-is : (m f : ℕ) → root_pattern m f ≡ f / 2 * 2 ^ 23 + rounded (m * 2 ^ (23 + f % 2))
unfolding root_pattern
pattern-is m f = refl

pub quick : (a q : ℕ) → 2 ^ 23 ≤ a → a < 255 * 2 ^ 23 → q * q < number_of a + q → number_of a ≤ q * q + q → Rooted a ((a + 1048576000) / 2 ^ 24 * 2 ^ 23 + q)
quick a q lo hi h k =
    let m = a % 2 ^ 23 + 2 ^ 23 in
    let f = a / 2 ^ 23 + 125 in
    subst (λ (r : ℕ). Rooted a r)
    (pattern-is m f
    ∙ ap (λ (x : ℕ). f / 2 * 2 ^ 23 + rounded (m * x)) (sym (factor a))
    ∙ ap (λ (x : ℕ). f / 2 * 2 ^ 23 + x) (half-test (number_of a) q h k)
    ∙ ap (λ (x : ℕ). x * 2 ^ 23 + q) (sym (exponent a)))
    (at-normal a (normal a lo) hi)
  where
    normal : (a : ℕ) → 2 ^ 23 ≤ a → a / 2 ^ 23 ≡ 0 → ⊥
    normal a l e = omega arith
