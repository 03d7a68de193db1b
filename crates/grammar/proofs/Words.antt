-- Digits spell their number, and a word is read up to its end. Assumes nothing.
use mathlib.Core.Path.{◌≡◌, refl, ap, subst, ◌∙◌}
use mathlib.Core.Bool.{Bool, true, false, ◌&&◌}
use mathlib.Core.List.{List, [], ◌∷◌, ◌++◌}
use Prim.Native.Nat.{ℕ, zero, suc, ◌+◌, ◌*◌, ◌-◌, ◌/◌, ◌%◌, ◌^◌, ◌≤◌, ◌<◌}
use native.Mathlib.Nat.{mod-eq_of_lt, mod-lt, pow-zero, pow-suc, div-lt_iff_lt-mul, div-le_self, div-add-mod'}
use native.Mathlib.Omega.{arith}
use borrow.Author.Tests.{le-ltb, ltb-true, ltb-false}
use lib.Dec.{T, ltb, leb, leb→le, le→leb}
use Rattle.model.specs.Lists.{pick}
use Rattle.grammar.specs.Digits.{Sort, numbers, floats, hex_digit, last_digits, places, base_of, digits_of}
use Rattle.grammar.specs.Parsed.{digit_of, onward, value_of, got, word_in, lettered}

-- ---- tests that hold together

pub both : (a b : Bool) → T (a && b) → T a × T b
both true b h = (tt, h)
both false b h = absurd h

pub and-of : (a b : Bool) → T a → T b → T (a && b)
and-of true b p q = q
and-of false b p q = absurd p

-- ---- one digit

-- b is a letter that is read as the digit d
abbrev pub Letter : ℕ → ℕ → Type 0
Letter d b = (48 ≤ b) × (digit_of b ≡ d)

digit-is : (b d q m : ℕ) → b % 16 ≡ m → b / 64 ≡ q → (m + 9 * q) % 16 ≡ d → digit_of b ≡ d
digit-is b d q m e f g = (λ j. (e j + 9 * f j) % 16) ∙ g

pub hex-letter : (d : ℕ) → d < 16 → Letter d (hex_digit d)
hex-letter d h = go (ltb d 10) refl
  where
    go : (t : Bool) → ltb d 10 ≡ t → Letter d (pick t (48 + d) (87 + d))
    go true e =
        let l = ltb-true d 10 e in
        (omega arith, digit-is (48 + d) d 0 d (omega arith) (omega arith) (omega arith))
    go false e =
        let l = ltb-false d 10 e in
        (omega arith, digit-is (87 + d) d 1 (d - 9) (omega arith) (omega arith) (omega arith))

-- ---- digits

pub value-snoc : (base v : ℕ) (ds : List ℕ) (b : ℕ)
    → value_of base v (ds ++ (b ∷ [])) ≡ onward base (value_of base v ds) b
unfolding value_of
value-snoc base v [] b = refl
value-snoc base v (d ∷ ds) b = value-snoc base (onward base v d) ds b

pub lettered-snoc : (ds : List ℕ) (b : ℕ) → T (lettered ds) → 48 ≤ b → T (lettered (ds ++ (b ∷ [])))
unfolding lettered
lettered-snoc [] b p h = and-of (leb 48 b) true (le→leb 48 b h) tt
lettered-snoc (d ∷ ds) b p h =
    let q = both (leb 48 d) (lettered ds) p in
    and-of (leb 48 d) _ q.0 (lettered-snoc ds b q.1 h)

-- digits of n
pub record Spells (base n : ℕ) (ds : List ℕ) : Type 0 where
  pub letters : T (lettered ds)
  pub value : value_of base 0 ds ≡ n

-- one more digit
more : (base n m b : ℕ) (ds : List ℕ) → m < 0x1_0000_0000 → Spells base m ds → 48 ≤ b → m * base + digit_of b ≡ n
    → Spells base n (ds ++ (b ∷ []))
more base n m b ds h s p e = record {
  letters = lettered-snoc ds b s.letters p;
  value =
      value-snoc base 0 ds b
      ∙ ap (λ (v : ℕ). onward base v b) s.value
      ∙ ap (λ (v : ℕ). v * base + digit_of b) (mod-eq_of_lt h)
      ∙ e;
}

pub last-spells : (base k n : ℕ) → 0 < base → base ≤ 16 → n < base ^ k → n < 0x1_0000_0000
    → Spells base n (last_digits base k n)
unfolding last_digits value_of lettered
last-spells base zero n o b h l =
    record { letters = tt; value = omega (arith, subst (λ (x : ℕ). n < x) (pow-zero base) h) }
last-spells base (suc k) n o b h l =
    let high : n / base < base ^ k = (div-lt_iff_lt-mul o).1 (subst (λ (x : ℕ). n < x) (pow-suc base k) h) in
    let less : n / base < 0x1_0000_0000 = omega (arith, div-le_self n base) in
    let d = hex-letter (n % base) (omega (arith, mod-lt n o)) in
    let rest = last-spells base k (n / base) o b high less in
    more base n (n / base) (hex_digit (n % base)) (last_digits base k (n / base)) less rest d.0
    (ap (λ (x : ℕ). n / base * base + x) d.1 ∙ div-add-mod' n base)

places-enough : (k n : ℕ) → n < 10 ^ suc k → n < 10 ^ places k n
unfolding places
places-enough zero n h = h
places-enough (suc k) n h =
    let b = subst (λ (x : ℕ). n < x) (pow-suc 10 (suc k)) h in
    go (places-enough k (n / 10) (omega arith)) (ltb n 10) refl
  where
    go : n / 10 < 10 ^ places k (n / 10) → (t : Bool) → ltb n 10 ≡ t → n < 10 ^ pick t 1 (suc (places k (n / 10)))
    go r true e = ltb-true n 10 e
    go r false e = omega (arith, pow-suc 10 (places k (n / 10)))

pub digits-spell : (s : Sort) (n : ℕ) → n < 0x1_0000_0000 → Spells (base_of s) n (digits_of s n)
digits-spell numbers n h =
    last-spells 10 (places 9 n) n (omega arith) (omega arith) (places-enough 9 n (omega arith)) h
digits-spell floats n h = last-spells 16 8 n (omega arith) (omega arith) h h

-- ---- a word in a text

pub word_over : (base v : ℕ) (ds s : List ℕ) → T (lettered ds)
    → word_in base v (ds ++ s) ≡ word_in base (value_of base v ds) s
unfolding word_in value_of lettered
word_over base v [] s p = refl
word_over base v (d ∷ ds) s p =
    let q = both (leb 48 d) (lettered ds) p in
    let e : ltb d 48 ≡ false = le-ltb d 48 (leb→le 48 d q.0) in
    ap (λ (t : Bool). pick t (got v (d ∷ ds ++ s)) (word_in base (onward base v d) (ds ++ s))) e
    ∙ word_over base (onward base v d) ds s q.1

-- a text that does not go on with a letter
abbrev pub Stops : List ℕ → Type 0
Stops [] = Unit {0}
Stops (b ∷ s) = T (ltb b 48)

pub word-stops : (base v : ℕ) (s : List ℕ) → Stops s → word_in base v s ≡ got v s
unfolding word_in
word-stops base v [] h = refl
word-stops base v (b ∷ s) h = go (ltb b 48) h
  where
    go : (t : Bool) → T t → pick t (got v (b ∷ s)) (word_in base (onward base v b) s) ≡ got v (b ∷ s)
    go true p = refl
    go false p = absurd p

pub word_read : (base : ℕ) (ds s : List ℕ) → T (lettered ds) → Stops s
    → word_in base 0 (ds ++ s) ≡ got (value_of base 0 ds) s
word_read base ds s p h = word_over base 0 ds s p ∙ word-stops base (value_of base 0 ds) s h
