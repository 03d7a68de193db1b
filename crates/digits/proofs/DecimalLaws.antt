-- Up to eight decimal digits worked on at once. Assumes nothing.
use mathlib.Core.Path.{◌≡◌, refl, sym, ap, subst, ◌∙◌}
use mathlib.Core.Bool.{true, false, ◌||◌, not}
use mathlib.Core.List.{List, [], ◌∷◌, ◌++◌, map}
use Prim.Native.Nat.{ℕ, zero, suc, ◌+◌, ◌*◌, ◌-◌, ◌/◌, ◌%◌, ◌^◌, ◌≤◌, ◌<◌}
use native.Mathlib.Omega.{arith}
use borrow.Author.Tests.{lt-ltb}
use lib.Bits.{bit_and, and_mask}
use lib.Dec.{T, ltb, eqb}
use lib.ListN.{length, get_or, take, replicate, length-map}
use Rattle.model.specs.Lists.{every}
use Rattle.grammar.specs.Digits.{numbers, hex_digit, digits_of}
use Rattle.grammar.proofs.Words.{and-of}
use Rattle.digits.specs.Packed.{packed, Packs, Turns, mirrored, laid, Pads, Tens}
use Rattle.digits.proofs.EightLaws.{and_last, below_at, same_bytes, entries, eight-entries}
use Rattle.digits.proofs.NumberLaws.{low, Digits, digits_same, digits-below, digits-alone, digits-spelt}
use Rattle.digits.proofs.NumberLaws.{turned_onto, digits-turned, digits-take}
use Rattle.digits.proofs.PaddedLaws.{upto-eight}

-- ---- the low half of each byte
lows-all : (bs : List ℕ) (w m : ℕ) → T (every (λ b. ltb b 256) bs)
    → bit_and (packed 256 w bs) (packed 256 m (replicate (length bs) 15)) ≡ packed 256 (bit_and w m) (map low bs)
unfolding packed
lows-all [] w m h = refl
lows-all (b ∷ bs) w m h =
    let q = below_at 256 b bs h in
    lows-all bs (w * 256 + b) (m * 256 + 15) q.1
    ∙ ap (λ (v : ℕ). packed 256 v (map low bs))
    (and_last w b m 15 q.0 (omega arith) ∙ ap (λ (k : ℕ). bit_and w m * 256 + k) (and_mask b 4))

lows-below : (bs : List ℕ) → T (every (λ d. ltb d 16) (map low bs))
unfolding every
lows-below [] = tt
lows-below (b ∷ bs) = and-of (ltb (low b) 16) _ (subst T (sym (lt-ltb (low b) 16 (omega arith))) tt) (lows-below bs)

pub turned-lows : {w r : ℕ} → r ≡ bit_and w 0x0f0f_0f0f_0f0f_0f0f → Turns (λ b. b % 16) 256 16 w r
unfolding packed
turned-lows e bs p = record {
  below = lows-below bs;
  eight = length-map bs low ∙ p.eight;
  one =
      e ∙ (λ j. bit_and (p.one j) (packed 256 0 (replicate (sym p.eight j) 15))) ∙ lows-all bs 0 0 p.below;
}

-- ---- bytes that are as their number is written

-- behind the digits 0 comes the first of them
first-half : (d : ℕ) (bs : List ℕ) (c : ℕ) → 1 ≤ c → c ≤ 8 → Packs 10 d (map low (laid c bs))
    → d / 2 ^ (64 - 8 * c) % 256 ≡ low (get_or bs 0 0)
unfolding packed
first-half d bs =
    upto-eight (λ c. Packs 10 d (map low (laid c bs)) → d / 2 ^ (64 - 8 * c) % 256 ≡ low (get_or bs 0 0))
    (λ t. omega (arith, t.one)) (λ t. omega (arith, t.one)) (λ t. omega (arith, t.one)) (λ t. omega (arith, t.one))
    (λ t. omega (arith, t.one)) (λ t. omega (arith, t.one)) (λ t. omega (arith, t.one)) (λ t. omega (arith, t.one))

positive : (x : ℕ) → (not (eqb x 0) || false) ≡ true → 0 < x
positive zero h = absurd (subst T (sym h) tt)
positive (suc x) h = omega arith

module _ (bs : List ℕ) {w : ℕ} (long : length bs ≡ 8) (ws : Packs 256 w (mirrored bs)) where
  -- the first c of them, more than one
  spell : (c : ℕ) {ds : List ℕ} {v : ℕ} → take c (entries bs) ≡ get_or bs 0 0 ∷ ds → length ds ≤ 9
      → v ≡ packed 10 0 (map low (get_or bs 0 0 ∷ ds)) → Digits (get_or bs 0 0 ∷ ds)
      → 0 < low (get_or bs 0 0) → digits_of numbers v ≡ take c bs
  unfolding Digits
  spell c {ds} e k f g o =
      ap (digits_of numbers) f ∙ digits-spelt (get_or bs 0 0) ds k o g
      ∙ sym (ap (take c) (eight-entries bs long) ∙ e)

  begins : {d : ℕ} (c : ℕ) → 1 ≤ c → c ≤ 8 → Packs 10 d (map low (laid c bs))
      → (not (eqb (d / 2 ^ (64 - 8 * c) % 256) 0) || false) ≡ true → 0 < low (get_or bs 0 0)
  begins {d} c h k t o = subst (λ (x : ℕ). 0 < x) (first-half d bs c h k t) (positive _ o)

  pub decimal-read : (count : ℕ) {p d l v : ℕ} → 1 ≤ count → count ≤ 8 → Pads w count p
      → Turns (λ b. b % 16) 256 16 p d → Tens d v → Turns hex_digit 16 256 d l
      → eqb l p ≡ true → (not (eqb (d / 2 ^ (64 - 8 * count) % 256) 0) || eqb count 1) ≡ true
      → digits_of numbers v ≡ take count bs
  unfolding packed Digits turned_onto
  decimal-read count {p} {d} {l} {v} h k ps lows ten letters e o =
      let laid_out = laid count bs in
      let bytes = ps bs ws in
      let halves = lows laid_out bytes in
      let same = same_bytes (letters (map low laid_out) halves) bytes e in
      let g = digits_same laid_out same in
      let t : Packs 10 d (map low laid_out) =
      record { below = digits-below laid_out g; eight = halves.eight; one = halves.one } in
      upto-eight
      (λ c. Digits (laid c bs) → Packs 10 d (map low (laid c bs)) → (not (eqb (d / 2 ^ (64 - 8 * c) % 256) 0) || eqb c 1) ≡ true
      → digits_of numbers v ≡ take c bs)
      (λ g t o. ap (digits_of numbers) (ten (replicate 7 0 ++ map low (take 1 (entries bs))) refl t)
      ∙ digits-alone (get_or bs 0 0) g.0 ∙ sym (ap (take 1) (eight-entries bs long)))
      (λ g t o. spell 2 refl (omega arith) (ten (replicate 6 0 ++ map low (take 2 (entries bs))) refl t)
      (digits-turned (take 2 (laid 2 bs)) [] (digits-take 2 (laid 2 bs) g) tt) (begins 2 (omega arith) (omega arith) t o))
      (λ g t o. spell 3 refl (omega arith) (ten (replicate 5 0 ++ map low (take 3 (entries bs))) refl t)
      (digits-turned (take 3 (laid 3 bs)) [] (digits-take 3 (laid 3 bs) g) tt) (begins 3 (omega arith) (omega arith) t o))
      (λ g t o. spell 4 refl (omega arith) (ten (replicate 4 0 ++ map low (take 4 (entries bs))) refl t)
      (digits-turned (take 4 (laid 4 bs)) [] (digits-take 4 (laid 4 bs) g) tt) (begins 4 (omega arith) (omega arith) t o))
      (λ g t o. spell 5 refl (omega arith) (ten (replicate 3 0 ++ map low (take 5 (entries bs))) refl t)
      (digits-turned (take 5 (laid 5 bs)) [] (digits-take 5 (laid 5 bs) g) tt) (begins 5 (omega arith) (omega arith) t o))
      (λ g t o. spell 6 refl (omega arith) (ten (replicate 2 0 ++ map low (take 6 (entries bs))) refl t)
      (digits-turned (take 6 (laid 6 bs)) [] (digits-take 6 (laid 6 bs) g) tt) (begins 6 (omega arith) (omega arith) t o))
      (λ g t o. spell 7 refl (omega arith) (ten (replicate 1 0 ++ map low (take 7 (entries bs))) refl t)
      (digits-turned (take 7 (laid 7 bs)) [] (digits-take 7 (laid 7 bs) g) tt) (begins 7 (omega arith) (omega arith) t o))
      (λ g t o. spell 8 refl (omega arith) (ten (replicate 0 0 ++ map low (take 8 (entries bs))) refl t)
      (digits-turned (take 8 (laid 8 bs)) [] (digits-take 8 (laid 8 bs) g) tt) (begins 8 (omega arith) (omega arith) t o))
      count h k g t o
