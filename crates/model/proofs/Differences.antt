-- Rounded differences and quotients, in either format: for x < y < z the difference y - x is at most z - x, and their quotient is from 0 to 1 or NaN;
-- and 1 less a value from 0 to 1 is from 0 to 1. Assumes nothing.
use mathlib.Core.Path.{◌≡◌, refl, sym, ap, subst}
use mathlib.Core.Logic.{◌⊎◌, inl, inr}
use mathlib.Core.Bool.{Bool, true, false, cond, false≢true}
use Prim.Native.Nat.{ℕ, suc, ◌+◌, ◌-◌, ◌*◌, ◌^◌, ◌≤◌, ◌<◌}
use native.Mathlib.Nat.{eq-zero-or-pos, mul-pos, mul-le-mul_right, mul_comm, mul-sub, zero-lt-suc}
use native.Mathlib.Omega.{arith}
use borrow.Author.Tests.{ltb-true, lt-ltb, le-ltb, eq-eqb, ne_eqb}
use lib.Dec.{T, ltb}
use lib.IntN.{ℤ, pos}
use lib.Ieee.{Float, nan, inf, fin, Format, binary32, binary64, prec, low, emax, up, down, round, odd, units, sub, div, lt, le}
use lib.Ieee.Exact.{HasValue, odd_sign}
use lib.Ieee.Fits.{up_pos, down_pos, round_is}
use lib.Ieee.Order.{round_mono, le_of_values}
use lib.Ieee.Positive.{den, den_pos}
use lib.Ieee.Scale.{finite}
use Rattle.turn.specs.Weight.{zero_f, one_f}
use Rattle.turn.proofs.Values.{values_of_le}
use Rattle.model.proofs.Orders.{lt_trans}

-- ---- a finite value is (plus x - minus x) / den x

abbrev plus : Float → ℕ
plus nan = 0
plus (inf s) = 0
plus (fin true m e) = 0
plus (fin false m e) = m * up e

abbrev minus : Float → ℕ
minus nan = 0
minus (inf s) = 0
minus (fin true m e) = m * up e
minus (fin false m e) = 0

-- y - x over both denominators: what is given, what is taken from it, and what is left
abbrev given : Float → Float → ℕ
given x y = plus y * den x + minus x * den y

abbrev taken : Float → Float → ℕ
taken x y = plus x * den y + minus y * den x

abbrev gap : Float → Float → ℕ
gap x y = given x y - taken x y

-- x < y, and y - x as one rounded fraction
record Apart (f : Format) (x y : Float) : Type 0 where
  order : taken x y < given x y
  rounded : sub f y x ≡ round f false (gap x y) (den y * den x)

apart : (f : Format) (x y : Float) → finite x ≡ true → finite y ≡ true → lt x y ≡ true → Apart f x y
unfolding lt sub
apart f nan y p q h = absurd (false≢true p)
apart f (inf s) y p q h = absurd (false≢true p)
apart f (fin s m e) nan p q h = absurd (false≢true q)
apart f (fin s m e) (inf t) p q h = absurd (false≢true q)
apart f (fin false m e) (fin true n d) p q h = absurd (false≢true h)
apart f (fin false m e) (fin false n d) p q h =
    let x = m * up e * down d in
    let y = n * up d * down e in
    let l : x < y = ltb-true x y h in
    record { order = omega arith; rounded = rw (le-ltb y x (omega arith)) (ap (λ (z : ℕ). round f false z (down d * down e)) (omega arith)) }
apart f (fin true m e) (fin false n d) p q h =
    let l : 0 < m * up e * down d + n * up d * down e = ltb-true _ _ h in
    record { order = omega arith; rounded = ap (λ (z : ℕ). round f false z (down d * down e)) (omega arith) }
apart f (fin true m e) (fin true n d) p q h =
    let x = m * up e * down d in
    let y = n * up d * down e in
    let l : y < x = ltb-true y x h in
    record { order = omega arith; rounded = rw (lt-ltb y x l) (ap (λ (z : ℕ). round f false z (down d * down e)) (omega arith)) }

-- y - x ≤ z - x for y < z
gap-mono : (x y z : Float) → taken y z < given y z → gap x y * (den z * den x) ≤ gap x z * (den y * den x)
gap-mono x y z k = go (plus x) (minus x) (den x) (plus y) (minus y) (den y) (plus z) (minus z) (den z) k
  where
    go : (p m d p' m' d' p'' m'' d'' : ℕ) → p' * d'' + m'' * d' < p'' * d' + m' * d''
        → (p' * d + m * d' - (p * d' + m' * d)) * (d'' * d) ≤ (p'' * d + m * d'' - (p * d'' + m'' * d)) * (d' * d)
    go p m d p' m' d' p'' m'' d'' h = rw (mul_comm _ (d'' * d), mul_comm _ (d' * d), mul-sub (d'' * d), mul-sub (d' * d)) (omega (arith, mul-le-mul_right (d * d) h))

-- ---- values whose sign is not set, which is what `round` gives at no sign

pub data Plain : Float → Type 0 where
  endless : Plain (inf false)
  number : (m : ℕ) (e : ℤ) → Plain (fin false m e)

value-plain : (x : Float) (a c : ℕ) → HasValue x false a c → Plain x
value-plain nan a c h = absurd h
value-plain (inf s) a c h = absurd h
value-plain (fin s m e) a c h = subst (λ (t : Bool). Plain (fin t m e)) (sym h.0) (number m e)

units-plain : (f : Format) (q k : ℕ) → Plain (units f false q k)
unfolding units
units-plain f q k = go (ltb (q * 2 ^ k) (2 ^ (low f + suc (emax f))))
  where
    go : (b : Bool) → Plain (cond b (odd (suc (prec f)) false q k (low f)) (inf false))
    go true = value-plain (odd (suc (prec f)) false q k (low f)) (q * 2 ^ k) (2 ^ low f) (odd_sign (suc (prec f)) false q k (low f))
    go false = endless

round-plain : (f : Format) (a c : ℕ) → Plain (round f false a c)
round-plain f a c = subst Plain (sym (round_is f false a c)) (units-plain f _ _)

pub from_zero : {x : Float} → Plain x → T (le zero_f x)
unfolding le
from_zero endless = tt
from_zero (number m e) = le_of_values zero_f (fin false m e) 0 1 (m * up e) (down e) (zero-lt-suc 0) (down_pos e) (refl, refl) (refl, refl) (omega arith)

-- ---- from 0 to 1

pub record ZeroToOne (x : Float) : Type 0 where
  plain : Plain x
  pub low : T (le zero_f x)
  pub high : T (le x one_f)

round-one : (f : Format) → round f false 1 1 ≡ one_f
unfolding round
round-one binary32 = refl
round-one binary64 = refl

-- a fraction up to 1
round-in-range : (f : Format) (a c : ℕ) → 0 < c → a ≤ c → ZeroToOne (round f false a c)
round-in-range f a c C h = record {
  plain = round-plain f a c;
  low = from_zero (round-plain f a c);
  high = subst (λ (z : Float). T (le (round f false a c) z)) (round-one f) (round_mono f a c 1 1 C (zero-lt-suc 0) (omega arith));
}

-- x / y for x ≤ y: NaN where both are 0 or both infinite
div-in-range : (f : Format) {x y : Float} → Plain x → Plain y → T (le x y) → (div f x y ≡ nan) ⊎ ZeroToOne (div f x y)
unfolding div le
div-in-range f endless endless h = inl refl
div-in-range f endless (number n d) h = absurd h
div-in-range f (number m e) endless h = inr (record { plain = number 0 (pos 0); low = tt; high = tt })
div-in-range f (number m e) (number n d) h =
    let a = m * up e * down d in
    let c = n * up d * down e in
    let l : a ≤ c = values_of_le (fin false m e) (fin false n d) (m * up e) (down e) (n * up d) (down d) (refl, refl) (refl, refl) h in
    elim (eq-zero-or-pos n) [
      | inr N ↦ inr (rw (ne_eqb n 0 (omega arith)) (round-in-range f a c (mul-pos (mul-pos N (up_pos d)) (down_pos e)) l))
      | inl z ↦ elim (eq-zero-or-pos m) [
        | inl w ↦ inl (rw (eq-eqb n 0 z, eq-eqb m 0 w))
        | inr M ↦ absurd (omega (arith, mul-pos (mul-pos M (up_pos e)) (down_pos d), rw z at l))
      ]
    ]

-- 1 less a value from 0 to 1
less-in-range : (f : Format) {x : Float} → Plain x → T (le x one_f) → ZeroToOne (sub f one_f x)
unfolding le sub
less-in-range f endless h = absurd h
less-in-range f (number m e) h =
    let l : m * up e * 1 ≤ 1 * down e = values_of_le (fin false m e) one_f (m * up e) (down e) 1 1 (refl, refl) (refl, refl) h in
    rw (le-ltb (1 * down e) (m * up e * 1) l) (round-in-range f _ _ (omega (arith, down_pos e)) (omega arith))

pub one_less : (f : Format) {x : Float} → ZeroToOne x → ZeroToOne (sub f one_f x)
one_less f h = less-in-range f h.plain h.high

-- ---- y - x divided by z - x, for x < y < z

pub ratio-in-range : (f : Format) (x y z : Float) → finite x ≡ true → finite y ≡ true → finite z ≡ true → lt x y ≡ true → lt y z ≡ true
    → (div f (sub f y x) (sub f z x) ≡ nan) ⊎ ZeroToOne (div f (sub f y x) (sub f z x))
ratio-in-range f x y z p q r h k =
    let l = apart f x y p q h in
    let w = apart f x z p r (lt_trans x y z h k) in
    rw (l.rounded, w.rounded)
    (div-in-range f (round-plain f _ _) (round-plain f _ _)
    (round_mono f (gap x y) (den y * den x) (gap x z) (den z * den x) (mul-pos (den_pos y) (den_pos x)) (mul-pos (den_pos z) (den_pos x)) (gap-mono x y z (apart f y z q r k).order)))
