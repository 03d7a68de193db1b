-- The order of floats as the order of ratios: `over x` / `under x` rises with x, from 0 / 1 at minus infinity through 1 / 1 at zero to 1 / 0
-- at infinity. Assumes nothing.
use mathlib.Core.Path.{◌≡◌, refl, sym, ap, ◌∙◌}
use mathlib.Core.Bool.{Bool, true, false, not, ◌&&◌, ◌||◌, or-true, and-true, and-false, and_comm, true≢false}
use mathlib.Core.Logic.{◌≢◌, ◌⊎◌, inl, inr}
use Prim.Native.Nat.{ℕ, ◌+◌, ◌*◌, ◌≤◌, ◌<◌}
use native.Mathlib.Nat.{eq-zero-or-pos, le_of_lt, le_of_eq, ne_of_gt, add-mul, mul-add, mul_comm, mul_assoc, mul_left_comm, mul-pos, mul-lt-mul_of_pos_right, mul-le-mul, le-add_left, mul-le-mul_right, lt_of_mul-lt-mul_right}
use native.Mathlib.Decide.{dec_lt, ℕ_discrete}
use native.Mathlib.Omega.{arith}
use borrow.Author.Tests.{ltb-true, ltb-false, lt-ltb, le-ltb, eqb-true, eqb-false, eq-eqb, ne_eqb, not-true}
use lib.Dec.{T, ltb, eqb}
use lib.IntN.{ℤ}
use lib.Ieee.{Float, nan, inf, fin, up, down, lt, eq, le, is_nan}
use lib.Ieee.Fits.{down_pos}
use lib.Ieee.Positive.{first_pos}
use lib.Ieee.Scale.{finite}
use Rattle.model.proofs.Tests.{both}

abbrev over : Float → ℕ
over nan = 0
over (inf true) = 0
over (inf false) = 1
over (fin true m e) = down e
over (fin false m e) = m * up e + down e

abbrev under : Float → ℕ
under nan = 0
under (inf true) = 1
under (inf false) = 0
under (fin true m e) = m * up e + down e
under (fin false m e) = down e

-- ---- tests of natural numbers that have the same answer

alike-lt : (a b c d : ℕ) → (a < b → c < d) → (c < d → a < b) → ltb a b ≡ ltb c d
alike-lt a b c d f g = elim (dec_lt a b) [
  | yes h ↦ lt-ltb a b h ∙ sym (lt-ltb c d (f h))
  | no h ↦ let k : ¬ (c < d) = λ l. h (g l) in le-ltb a b (omega arith) ∙ sym (le-ltb c d (omega arith))
]

alike-eq : (a b c d : ℕ) → (a ≡ b → c ≡ d) → (c ≡ d → a ≡ b) → eqb a b ≡ eqb c d
alike-eq a b c d f g = elim (ℕ_discrete a b) [ yes h ↦ eq-eqb a b h ∙ sym (eq-eqb c d (f h)) | no h ↦ ne_eqb a b h ∙ sym (ne_eqb c d (λ l. h (g l))) ]

eqb-sym : (a b : ℕ) → eqb a b ≡ eqb b a
eqb-sym a b = alike-eq a b b a sym sym

both_zero : (a b : ℕ) → (eqb a b && eqb a 0) ≡ eqb (a + b) 0
both_zero a b = elim (ℕ_discrete a b) [
  | yes h ↦ ap (λ (t : Bool). t && eqb a 0) (eq-eqb a b h) ∙ alike-eq a 0 (a + b) 0 (omega arith) (omega arith)
  | no h ↦ ap (λ (t : Bool). t && eqb a 0) (ne_eqb a b h) ∙ sym (ne_eqb (a + b) 0 (omega arith))
]

-- ---- finite values of the sizes m / e and n / d

module _ (m e n d : ℕ) where
  both_positive : (ltb (m * d) (n * e) ≡ ltb ((m + e) * d) ((n + d) * e)) × ((eqb (m * d) (n * e) && true) ≡ eqb ((m + e) * d) ((n + d) * e))
  both_positive =
      let p = add-mul m e d in
      let q = add-mul n d e in
      let c = mul_comm d e in (
        alike-lt (m * d) (n * e) ((m + e) * d) ((n + d) * e) (omega arith) (omega arith),
        and-true (eqb (m * d) (n * e)) ∙ alike-eq (m * d) (n * e) ((m + e) * d) ((n + d) * e) (omega arith) (omega arith),
      )

  negative-positive : 0 < e → (ltb 0 (m * d + n * e) ≡ ltb (e * d) ((n + d) * (m + e))) × ((eqb (m * d) (n * e) && eqb (m * d) 0) ≡ eqb (e * d) ((n + d) * (m + e)))
  negative-positive E =
      let c : (n + d) * (m + e) ≡ n * m + n * e + m * d + e * d = simp (add-mul, mul-add) (omega (arith, mul_comm d e, mul_comm d m)) in
      let k : (n * m ≡ 0) ⊎ (0 < n * e) = elim (eq-zero-or-pos (n * m)) [ inl z ↦ inl z | inr h ↦ inr (mul-pos (first_pos n m h) E) ] in (
        alike-lt 0 (m * d + n * e) (e * d) ((n + d) * (m + e)) (omega arith) (λ h. elim k [ inl z ↦ omega arith | inr b ↦ omega arith ]),
        both_zero (m * d) (n * e) ∙ alike-eq (m * d + n * e) 0 (e * d) ((n + d) * (m + e)) (λ h. elim k [ inl z ↦ omega arith | inr b ↦ omega arith ]) (omega arith),
      )

  positive-negative : 0 < e → (false ≡ ltb ((m + e) * (n + d)) (d * e)) × ((eqb (m * d) (n * e) && eqb (m * d) 0) ≡ eqb ((m + e) * (n + d)) (d * e))
  positive-negative E = (
    sym (le-ltb ((m + e) * (n + d)) (d * e) (rw (mul_comm d e) (mul-le-mul (le-add_left e m) (le-add_left d n)))),
    (negative-positive E).1 ∙ eqb-sym (e * d) ((n + d) * (m + e)) ∙ (λ i. eqb (mul_comm (n + d) (m + e) i) (mul_comm e d i)),
  )

both_negative : (m e n d : ℕ)
    → (ltb (n * e) (m * d) ≡ ltb (e * (n + d)) (d * (m + e))) × ((eqb (m * d) (n * e) && true) ≡ eqb (e * (n + d)) (d * (m + e)))
both_negative m e n d = rw (mul_comm e (n + d), mul_comm d (m + e), eqb-sym (m * d) (n * e)) (both_positive n d m e)

-- ---- all floats

finite-pos : (s : Bool) (m : ℕ) (e : ℤ) → (0 < over (fin s m e)) × (0 < under (fin s m e))
finite-pos true m e = omega (arith, down_pos e)
finite-pos false m e = omega (arith, down_pos e)

less : (a b : ℕ) → a < b → (true ≡ ltb a b) × (false ≡ eqb a b)
less a b h = (sym (lt-ltb a b h), sym (ne_eqb a b (omega arith)))

more : (a b : ℕ) → b < a → (false ≡ ltb a b) × (false ≡ eqb a b)
more a b h = (sym (le-ltb a b (omega arith)), sym (ne_eqb a b (omega arith)))

-- the tests of two floats are those of the ratios, but a NaN equals nothing
compared : (x y : Float)
    → (lt x y ≡ ltb (over x * under y) (over y * under x)) × (eq x y ≡ (not (is_nan x) && not (is_nan y) && eqb (over x * under y) (over y * under x)))
unfolding lt eq is_nan
compared nan y = (sym (le-ltb (0 * under y) (over y * 0) (omega arith)), refl)
compared (inf s) nan = (sym (le-ltb (over (inf s) * 0) (0 * under (inf s)) (omega arith)), refl)
compared (inf true) (inf true) = (refl, refl)
compared (inf true) (inf false) = (refl, refl)
compared (inf false) (inf true) = (refl, refl)
compared (inf false) (inf false) = (refl, refl)
compared (inf true) (fin t n d) = less (0 * under (fin t n d)) (over (fin t n d) * 1) (omega (arith, finite-pos t n d))
compared (inf false) (fin t n d) = more (1 * under (fin t n d)) (over (fin t n d) * 0) (omega (arith, finite-pos t n d))
compared (fin s m e) nan = (sym (le-ltb (over (fin s m e) * 0) (0 * under (fin s m e)) (omega arith)), refl)
compared (fin s m e) (inf true) = more (over (fin s m e) * 1) (0 * under (fin s m e)) (omega (arith, finite-pos s m e))
compared (fin s m e) (inf false) = less (over (fin s m e) * 0) (1 * under (fin s m e)) (omega (arith, finite-pos s m e))
compared (fin false m e) (fin false n d) = both_positive (m * up e) (down e) (n * up d) (down d)
compared (fin true m e) (fin true n d) = both_negative (m * up e) (down e) (n * up d) (down d)
compared (fin true m e) (fin false n d) = negative-positive (m * up e) (down e) (n * up d) (down d) (down_pos e)
compared (fin false m e) (fin true n d) = positive-negative (m * up e) (down e) (n * up d) (down d) (down_pos e)

-- ---- the laws

ruleset products = (mul-add, mul_assoc, mul_comm, mul_left_comm)

-- a / b < c / d ≤ e / f
through : (a b c d e f : ℕ) → a * d < c * b → c * f ≤ e * d → 0 < e + f → a * f < e * b
through a b c d e f h k z =
    let p = mul-lt-mul_of_pos_right h z in
    let q = mul-le-mul_right a k in
    let r = mul-le-mul_right b k in
    lt_of_mul-lt-mul_right (c + d) (simp products (omega (arith, simp products at p, simp products at q, simp products at r)))

number-pos : (x : Float) → is_nan x ≡ false → 0 < over x + under x
unfolding is_nan
number-pos nan h = absurd (true≢false h)
number-pos (inf true) h = omega arith
number-pos (inf false) h = omega arith
number-pos (fin s m e) h = omega (arith, finite-pos s m e)

module _ (x y : Float) where
  below : lt x y ≡ true → over x * under y < over y * under x
  below h = ltb-true _ _ (sym (compared x y).0 ∙ h)

  level : eq x y ≡ true → (is_nan x ≡ false) × (over x * under y ≡ over y * under x)
  level h =
      let e = both (not (is_nan x) && not (is_nan y)) _ (sym (compared x y).1 ∙ h) in
      (not-true (is_nan x) (both (not (is_nan x)) (not (is_nan y)) e.0).0, eqb-true _ _ e.1)

  numbers-eq : is_nan x ≡ false → is_nan y ≡ false → eq x y ≡ eqb (over x * under y) (over y * under x)
  numbers-eq p q = (compared x y).1 ∙ (λ i. not (p i) && not (q i) && eqb (over x * under y) (over y * under x))

  -- a float below another is not above it, and not equal to it
  pub lt-excludes : lt x y ≡ true → (lt y x ≡ false) × (eq y x ≡ false)
  lt-excludes h = (
    (compared y x).0 ∙ le-ltb _ _ (le_of_lt (below h)),
    (compared y x).1 ∙ ap (λ (b : Bool). not (is_nan y) && not (is_nan x) && b) (ne_eqb _ _ (ne_of_gt (below h))) ∙ and-false (not (is_nan y) && not (is_nan x)),
  )

  pub eq-excludes : eq x y ≡ true → lt x y ≡ false
  eq-excludes h = (compared x y).0 ∙ le-ltb _ _ (le_of_eq (sym (level h).1))

  -- neither below nor equal: above
  pub trichotomy : is_nan x ≡ false → is_nan y ≡ false → lt x y ≡ false → eq x y ≡ false → lt y x ≡ true
  trichotomy p q h k =
      let l : over y * under x ≤ over x * under y = ltb-false _ _ (sym (compared x y).0 ∙ h) in
      let n : over x * under y ≢ over y * under x = eqb-false _ _ (sym (numbers-eq p q) ∙ k) in
      (compared y x).0 ∙ lt-ltb (over y * under x) (over x * under y) (omega arith)

  pub eq-sym : eq x y ≡ eq y x
  eq-sym = (compared x y).1 ∙ (λ i. and_comm (not (is_nan x)) (not (is_nan y)) i && eqb-sym (over x * under y) (over y * under x) i) ∙ sym (compared y x).1

  -- not below: above or equal
  pub le_of_not_lt : is_nan x ≡ false → is_nan y ≡ false → lt x y ≡ false → T (le y x)
  unfolding le
  le_of_not_lt p q h = go (eq x y) refl
    where
      go : (b : Bool) → eq x y ≡ b → T (lt y x || eq y x)
      go true e = rw (← eq-sym, e, or-true) tt
      go false e = rw (trichotomy p q h e) tt

  -- and y is not above z
  onward : lt x y ≡ true → (z : Float) → over y * under z ≤ over z * under y → 0 < over z + under z → lt x z ≡ true
  onward h z k n = (compared x z).0 ∙ lt-ltb _ _ (through (over x) (under x) (over y) (under y) (over z) (under z) (below h) k n)

pub lt_trans : (x y z : Float) → lt x y ≡ true → lt y z ≡ true → lt x z ≡ true
lt_trans x y z h k =
    let b = below y z k in
    onward x y h z (le_of_lt b) (omega (arith, first_pos (over z) (under y) (omega arith)))

pub lt-eq-trans : (x y z : Float) → lt x y ≡ true → eq z y ≡ true → lt x z ≡ true
lt-eq-trans x y z h k =
    let e = level z y k in
    onward x y h z (le_of_eq (sym e.1)) (number-pos z e.0)

pub eq_self : (x : Float) → is_nan x ≡ false → eq x x ≡ true
eq_self x h = numbers-eq x x h h ∙ eq-eqb (over x * under x) (over x * under x) refl

-- what lies between two floats is no infinity
pub between-finite : (x y z : Float) → lt x y ≡ true → lt y z ≡ true → finite y ≡ true
between-finite x nan z h k = absurd (omega (arith, below nan z k))
between-finite x (inf true) z h k = absurd (omega (arith, below x (inf true) h))
between-finite x (inf false) z h k = absurd (omega (arith, below (inf false) z k))
between-finite x (fin s m e) z h k = refl
