-- The decimal digits of a number, and bytes that are such digits. Assumes nothing.
use mathlib.Core.Path.{◌≡◌, refl, sym, ap, subst, ◌∙◌}
use mathlib.Core.Bool.{Bool, true, false}
use mathlib.Core.List.{List, [], ◌∷◌, ◌++◌, map, append-nil}
use Prim.Native.Nat.{ℕ, zero, suc, ◌+◌, ◌*◌, ◌-◌, ◌/◌, ◌%◌, ◌≤◌, ◌<◌}
use native.Mathlib.Nat.{add-zero}
use native.Mathlib.Omega.{arith}
use borrow.Author.Tests.{lt-ltb, ltb-true, ltb-false}
use lib.Dec.{T, ltb}
use lib.ListN.{length, get_or, take, drop}
use lib.Seq.{append_snoc}
use Rattle.model.specs.Lists.{pick, every}
use Rattle.grammar.specs.Digits.{numbers, hex_digit, last_digits, places, digits_of}
use Rattle.grammar.proofs.Words.{and-of}
use Rattle.spelling.proofs.DigitLaws.{places-small, places-more}
use Rattle.digits.specs.Packed.{packed}

-- ---- the digits of a number
abbrev pub digits_in : ℕ → ℕ → List ℕ
digits_in k n = last_digits 10 (places k n) n

letter : (d : ℕ) → d < 10 → hex_digit d ≡ 48 + d
letter d h = ap (λ (t : Bool). pick t (48 + d) (87 + d)) (lt-ltb d 10 h)

pub digits-one : (k d : ℕ) → d < 10 → digits_in k d ≡ (48 + d) ∷ []
unfolding last_digits
digits-one k d h =
    let low : d % 10 ≡ d = omega arith in
    ap (λ (n : ℕ). last_digits 10 n d) (places-small k d h) ∙ ap (λ (n : ℕ). hex_digit n ∷ []) low
    ∙ ap (λ (n : ℕ). n ∷ []) (letter d h)

pub digits_more : (k n d : ℕ) → 0 < n → d < 10 → digits_in (suc k) (n * 10 + d) ≡ digits_in k n ++ ((48 + d) ∷ [])
unfolding last_digits
digits_more k n d o h =
    let all = n * 10 + d in
    let one : suc k - 1 ≡ k = omega arith in
    let high : all / 10 ≡ n = omega arith in
    let low : all % 10 ≡ d = omega arith in
    let long = places-more (suc k) all (omega arith) (omega arith) ∙ (λ j. suc (places (one j) (high j))) in
    ap (λ (m : ℕ). last_digits 10 m all) long
    ∙ (λ j. last_digits 10 (places k n) (high j) ++ (hex_digit (low j) ∷ []))
    ∙ ap (λ (b : ℕ). digits_in k n ++ (b ∷ [])) (letter d h)

-- ---- bytes that are decimal digits
abbrev pub low : ℕ → ℕ
low b = b % 16

pub record Digit (b : ℕ) : Type 0 where
  pub less : low b < 10
  pub same : 48 + low b ≡ b

digit-byte : (b : ℕ) → hex_digit (low b) ≡ b → Digit b
digit-byte b = go (ltb (low b) 10) refl
  where
    go : (t : Bool) → ltb (low b) 10 ≡ t → pick t (48 + low b) (87 + low b) ≡ b → Digit b
    go true e f = record { less = ltb-true (low b) 10 e; same = f }
    go false e f = absurd (omega (arith, ltb-false (low b) 10 e, f))

unfoldable pub Digits : List ℕ → Type 0
Digits [] = Unit {0}
Digits (b ∷ bs) = Digit b × Digits bs

pub digits_same : (bs : List ℕ) → map hex_digit (map low bs) ≡ bs → Digits bs
unfolding Digits
digits_same [] e = tt
digits_same (b ∷ bs) e =
    (digit-byte b (ap (λ (l : List ℕ). get_or l 0 0) e), digits_same bs (ap (drop 1) e))

pub digits-below : (bs : List ℕ) → Digits bs → T (every (λ d. ltb d 10) (map low bs))
unfolding Digits every
digits-below [] h = tt
digits-below (b ∷ bs) h =
    and-of (ltb (low b) 10) _ (subst T (sym (lt-ltb (low b) 10 h.0.less)) tt) (digits-below bs h.1)

-- digits behind those of a number
digits-on : (bs : List ℕ) (k v : ℕ) → 0 < v → Digits bs
    → digits_in (k + length bs) (packed 10 v (map low bs)) ≡ digits_in k v ++ bs
unfolding packed Digits
digits-on [] k v o h = ap (λ (n : ℕ). digits_in n v) (add-zero k) ∙ sym (append-nil (digits_in k v))
digits-on (b ∷ bs) k v o h =
    let d = h.0 in
    let more : k + suc (length bs) ≡ suc k + length bs = omega arith in
    ap (λ (n : ℕ). digits_in n (packed 10 (v * 10 + low b) (map low bs))) more
    ∙ digits-on bs (suc k) (v * 10 + low b) (omega arith) h.1
    ∙ ap (λ (l : List ℕ). l ++ bs)
    (digits_more k v (low b) o d.less ∙ ap (λ (x : ℕ). digits_in k v ++ (x ∷ [])) d.same)
    ∙ append_snoc (digits_in k v) b bs

-- the digits of the number that bytes spell
pub digits-alone : (b : ℕ) → Digit b → digits_of numbers (packed 10 0 (low b ∷ [])) ≡ b ∷ []
unfolding packed
digits-alone b h =
    let one : 0 * 10 + low b ≡ low b = omega arith in
    ap (digits_in 9) one ∙ digits-one 9 (low b) h.less ∙ ap (λ (x : ℕ). x ∷ []) h.same

pub digits-spelt : (b : ℕ) (bs : List ℕ) → length bs ≤ 9 → 0 < low b → Digits (b ∷ bs)
    → digits_of numbers (packed 10 0 (map low (b ∷ bs))) ≡ b ∷ bs
unfolding packed Digits
digits-spelt b bs l o h =
    let k = 9 - length bs in
    let nine : 9 ≡ k + length bs = omega arith in
    let one : 0 * 10 + low b ≡ low b = omega arith in
    (λ j. digits_in (nine j) (packed 10 (one j) (map low bs))) ∙ digits-on bs k (low b) o h.1
    ∙ ap (λ (l : List ℕ). l ++ bs) (digits-one k (low b) h.0.less ∙ ap (λ (x : ℕ). x ∷ []) h.0.same)

-- ---- the other way round
unfoldable pub turned_onto : List ℕ → List ℕ → List ℕ
turned_onto [] ys = ys
turned_onto (x ∷ xs) ys = turned_onto xs (x ∷ ys)

pub digits-turned : (xs ys : List ℕ) → Digits xs → Digits ys → Digits (turned_onto xs ys)
unfolding Digits turned_onto
digits-turned [] ys g h = h
digits-turned (x ∷ xs) ys g h = digits-turned xs (x ∷ ys) g.1 (g.0, h)

pub digits-take : (k : ℕ) (xs : List ℕ) → Digits xs → Digits (take k xs)
unfolding Digits
digits-take zero xs g = tt
digits-take (suc k) [] g = tt
digits-take (suc k) (x ∷ xs) g = (g.0, digits-take k xs g.1)
