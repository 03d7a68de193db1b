-- Eight bytes in one number, the first one lowest, and the first so many of them behind digits 0. Assumes nothing.
use mathlib.Core.Path.{◌≡◌, refl, ap, ◌∙◌}
use mathlib.Core.List.{List, [], ◌∷◌, ◌++◌}
use Prim.Native.Nat.{ℕ, zero, suc, ◌+◌, ◌*◌, ◌-◌, ◌%◌, ◌^◌, ◌≤◌, ◌<◌}
use native.Mathlib.Omega.{arith}
use lib.Dec.{T, ltb}
use lib.ListN.{length, get_or, take, drop, replicate}
use Rattle.model.specs.Lists.{every}
use Rattle.grammar.proofs.Words.{both, and-of}
use Rattle.digits.specs.Packed.{packed, Packs, mirrored, laid, Pads}
use Rattle.digits.proofs.EightLaws.{below_at, below-entry, entries_below, packed-eight}

-- ---- eight bytes, the first one lowest
pub mirrored-packed : (bs : List ℕ) {p q r s : ℕ} → ((i : ℕ) → get_or bs i 0 < 256)
    → p ≡ get_or bs 7 0 * 256 + get_or bs 6 0 → q ≡ get_or bs 5 0 * 256 + get_or bs 4 0
    → r ≡ get_or bs 3 0 * 256 + get_or bs 2 0 → s ≡ get_or bs 1 0 * 256 + get_or bs 0 0
    → Packs 256 ((p * 0x1_0000 + q) * 0x1_0000_0000 + (r * 0x1_0000 + s)) (mirrored bs)
mirrored-packed bs h e f g k = record {
  below = entries_below 256 (mirrored bs) below;
  eight = refl;
  one = packed-eight _ _ _ _ _ _ _ _ _ _ _ _ e f g k;
}
  where
    below : (i : ℕ) → get_or (mirrored bs) i 0 < 256
    below zero = h 7
    below (suc zero) = h 6
    below (suc (suc zero)) = h 5
    below (suc (suc (suc zero))) = h 4
    below (suc (suc (suc (suc zero)))) = h 3
    below (suc (suc (suc (suc (suc zero))))) = h 2
    below (suc (suc (suc (suc (suc (suc zero)))))) = h 1
    below (suc (suc (suc (suc (suc (suc (suc zero))))))) = h 0
    below (suc (suc (suc (suc (suc (suc (suc (suc n)))))))) = omega arith

below-drop : (k : ℕ) (bs : List ℕ) → T (every (λ d. ltb d 256) bs) → T (every (λ d. ltb d 256) (drop k bs))
below-drop zero bs h = h
below-drop (suc k) [] h = h
below-drop (suc k) (b ∷ bs) h = below-drop k bs (below_at 256 b bs h).1

below-behind : (k : ℕ) (bs : List ℕ) → T (every (λ d. ltb d 256) bs)
    → T (every (λ d. ltb d 256) (bs ++ replicate k 48))
unfolding every
below-behind zero [] h = tt
below-behind (suc k) [] h = below-behind k [] h
below-behind k (b ∷ bs) h =
    let q = both (ltb b 256) (every (λ d. ltb d 256) bs) h in
    and-of (ltb b 256) _ q.0 (below-behind k bs q.1)

-- ---- as many as are digits
pub upto-eight : (P : ℕ → Type 0) → P 1 → P 2 → P 3 → P 4 → P 5 → P 6 → P 7 → P 8
    → (c : ℕ) → 1 ≤ c → c ≤ 8 → P c
upto-eight P a b c d e f g h zero k l = absurd (omega arith)
upto-eight P a b c d e f g h (suc zero) k l = a
upto-eight P a b c d e f g h (suc (suc zero)) k l = b
upto-eight P a b c d e f g h (suc (suc (suc zero))) k l = c
upto-eight P a b c d e f g h (suc (suc (suc (suc zero)))) k l = d
upto-eight P a b c d e f g h (suc (suc (suc (suc (suc zero))))) k l = e
upto-eight P a b c d e f g h (suc (suc (suc (suc (suc (suc zero)))))) k l = f
upto-eight P a b c d e f g h (suc (suc (suc (suc (suc (suc (suc zero))))))) k l = g
upto-eight P a b c d e f g h (suc (suc (suc (suc (suc (suc (suc (suc zero)))))))) k l = h
upto-eight P a b c d e f g h (suc (suc (suc (suc (suc (suc (suc (suc (suc n))))))))) k l = absurd (omega arith)

-- eight bytes shifted up so that the first `count` are left, digits 0 below them
abbrev pub shifted : ℕ → ℕ → ℕ
shifted w by = (w * 2 ^ by) % 2 ^ 64 + (0x3030_3030_3030_3030 - (0x3030_3030_3030_3030 * 2 ^ by) % 2 ^ 64)

-- it stays below 2^64
pub shifted_fits : (w count : ℕ) → 1 ≤ count → count ≤ 8
    → ((0x3030_3030_3030_3030 * 2 ^ (64 - 8 * count)) % 2 ^ 64 ≤ 0x3030_3030_3030_3030)
    × (shifted w (64 - 8 * count) < 2 ^ 64)
shifted_fits w =
    upto-eight
    (λ c. ((0x3030_3030_3030_3030 * 2 ^ (64 - 8 * c)) % 2 ^ 64 ≤ 0x3030_3030_3030_3030)
    × (shifted w (64 - 8 * c) < 2 ^ 64))
    (omega arith, omega arith) (omega arith, omega arith) (omega arith, omega arith) (omega arith, omega arith)
    (omega arith, omega arith) (omega arith, omega arith) (omega arith, omega arith) (omega arith, omega arith)

cut : (c : ℕ) → 1 ≤ c → c ≤ 8 → (high low : ℕ) → low < 2 ^ (8 * c)
    → ((high * 2 ^ (8 * c) + low) * 2 ^ (64 - 8 * c)) % 2 ^ 64 ≡ low * 2 ^ (64 - 8 * c)
cut =
    upto-eight
    (λ c. (high low : ℕ) → low < 2 ^ (8 * c)
    → ((high * 2 ^ (8 * c) + low) * 2 ^ (64 - 8 * c)) % 2 ^ 64 ≡ low * 2 ^ (64 - 8 * c))
    (λ h l k. omega arith) (λ h l k. omega arith) (λ h l k. omega arith) (λ h l k. omega arith)
    (λ h l k. omega arith) (λ h l k. omega arith) (λ h l k. omega arith) (λ h l k. omega arith)

shifted-eight : (a b c d e f g h : ℕ) → a < 256 → b < 256 → c < 256 → d < 256 → e < 256 → f < 256 → g < 256
    → h < 256 → let bs = a ∷ b ∷ c ∷ d ∷ e ∷ f ∷ g ∷ h ∷ [] in (n : ℕ) → 1 ≤ n → n ≤ 8
    → shifted (packed 256 0 bs) (64 - 8 * n) ≡ packed 256 0 (drop (8 - n) bs ++ replicate (8 - n) 48)
unfolding packed
shifted-eight a b c d e f g h ka kb kc kd ke kf kg kh =
    let bs = a ∷ b ∷ c ∷ d ∷ e ∷ f ∷ g ∷ h ∷ [] in
    upto-eight
    (λ n. shifted (packed 256 0 bs) (64 - 8 * n) ≡ packed 256 0 (drop (8 - n) bs ++ replicate (8 - n) 48))
    (omega (
      arith,
      cut 1 (omega arith) (omega arith)
          (packed 256 0 (take 7 bs)) (packed 256 0 (drop 7 bs)) (omega arith),
    ))
    (omega (
      arith,
      cut 2 (omega arith) (omega arith)
          (packed 256 0 (take 6 bs)) (packed 256 0 (drop 6 bs)) (omega arith),
    ))
    (omega (
      arith,
      cut 3 (omega arith) (omega arith)
          (packed 256 0 (take 5 bs)) (packed 256 0 (drop 5 bs)) (omega arith),
    ))
    (omega (
      arith,
      cut 4 (omega arith) (omega arith)
          (packed 256 0 (take 4 bs)) (packed 256 0 (drop 4 bs)) (omega arith),
    ))
    (omega (
      arith,
      cut 5 (omega arith) (omega arith)
          (packed 256 0 (take 3 bs)) (packed 256 0 (drop 3 bs)) (omega arith),
    ))
    (omega (
      arith,
      cut 6 (omega arith) (omega arith)
          (packed 256 0 (take 2 bs)) (packed 256 0 (drop 2 bs)) (omega arith),
    ))
    (omega (
      arith,
      cut 7 (omega arith) (omega arith)
          (packed 256 0 (take 1 bs)) (packed 256 0 (drop 1 bs)) (omega arith),
    ))
    (omega (
      arith,
      cut 8 (omega arith) (omega arith)
          (packed 256 0 (take 0 bs)) (packed 256 0 (drop 0 bs)) (omega arith),
    ))

laid-eight : (c : ℕ) → 1 ≤ c → c ≤ 8 → (bs : List ℕ) → length (laid c bs) ≡ 8
laid-eight =
    upto-eight (λ c. (bs : List ℕ) → length (laid c bs) ≡ 8) (λ bs. refl) (λ bs. refl) (λ bs. refl) (λ bs. refl)
    (λ bs. refl) (λ bs. refl) (λ bs. refl) (λ bs. refl)

pub pads : (w count : ℕ) → 1 ≤ count → count ≤ 8 → {r : ℕ} → r ≡ shifted w (64 - 8 * count) → Pads w count r
pads w count h k e bs p =
    let b : (i : ℕ) → i < 8 → get_or (mirrored bs) i 0 < 256 = λ i l. below-entry 256 (mirrored bs) p.below i l in
    let n = 8 - count in
    record {
      below = below-behind n (drop n (mirrored bs)) (below-drop n (mirrored bs) p.below);
      eight = laid-eight count h k bs;
      one =
          e ∙ ap (λ (x : ℕ). shifted x (64 - 8 * count)) p.one
          ∙ shifted-eight _ _ _ _ _ _ _ _ (b 0 (omega arith)) (b 1 (omega arith)) (b 2 (omega arith))
          (b 3 (omega arith)) (b 4 (omega arith)) (b 5 (omega arith)) (b 6 (omega arith)) (b 7 (omega arith)) count h k;
    }
