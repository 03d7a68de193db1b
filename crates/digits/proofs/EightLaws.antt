-- Eight bytes worked on at once, each in its own place of one number. Assumes nothing.
use mathlib.Core.Path.{◌≡◌, refl, sym, ap, subst, ◌∙◌}
use mathlib.Core.Bool.{Bool, true, false}
use mathlib.Core.List.{List, [], ◌∷◌, ◌++◌, map, append-nil}
use Prim.Native.Nat.{ℕ, zero, suc, ◌+◌, ◌*◌, ◌/◌, ◌%◌, ◌≤◌, ◌<◌}
use native.Mathlib.Nat.{add-zero}
use native.Mathlib.Omega.{arith}
use borrow.Author.Tests.{lt-ltb, ltb-true, ltb-false, eqb-true}
use lib.Bits.{bit_and, and_block, and_mask, and_le_r}
use lib.Dec.{T, ltb, eqb}
use lib.ListN.{length, get_or, drop, replicate, length-map, drop_of_length-le}
use lib.Seq.{drop-cons, append_snoc}
use Rattle.model.specs.Lists.{pick, every}
use Rattle.grammar.specs.Digits.{hex_digit, last_digits}
use Rattle.grammar.specs.Parsed.{digit_of}
use Rattle.grammar.proofs.Words.{both, and-of}
use Rattle.digits.specs.Packed.{packed, Packs, Turns, Spelt, Written}

-- ---- a mask in every place
abbrev places : ℕ → ℕ → List ℕ → ℕ
places m v bs = packed 256 v (replicate (length bs) m)

-- the last place apart
pub and_last : (w b v m : ℕ) → b < 256 → m < 256 → bit_and (w * 256 + b) (v * 256 + m) ≡ bit_and w v * 256 + bit_and b m
and_last w b v m h k = and_block 8 w v b m h k

pub below_at : (n b : ℕ) (bs : List ℕ) → T (every (λ d. ltb d n) (b ∷ bs)) → (b < n) × T (every (λ d. ltb d n) bs)
unfolding every
below_at n b bs h =
    let q = both (ltb b n) (every (λ d. ltb d n) bs) h in
    (ltb-true b n (T_true (ltb b n) q.0), q.1)
  where
    T_true : (t : Bool) → T t → t ≡ true
    T_true true x = refl
    T_true false x = elim x [ ]

-- ---- what each byte is read as
abbrev pub digits_in : ℕ → ℕ → ℕ → ℕ
digits_in w low high = bit_and (bit_and w low + 9 * bit_and (w / 64) high) low

pub digits-upto : (w low high : ℕ) → digits_in w low high ≤ low
digits-upto w low high = and_le_r (bit_and w low + 9 * bit_and (w / 64) high) low

digits_last : (w b low high : ℕ) → b < 256
    → digits_in (w * 256 + b) (low * 256 + 15) (high * 256 + 3) ≡ digits_in w low high * 256 + digit_of b
digits_last w b low high h =
    let x = w % 64 * 4 + b / 64 in
    let s = b % 16 + 9 * (b / 64) in
    let one = and_last w b low 15 h (omega arith) ∙ ap (λ (k : ℕ). bit_and w low * 256 + k) (and_mask b 4) in
    let shifted : (w * 256 + b) / 64 ≡ w / 64 * 256 + x = omega arith in
    let last : x % 4 ≡ b / 64 = omega arith in
    let two =
    ap (λ (k : ℕ). bit_and k (high * 256 + 3)) shifted ∙ and_last (w / 64) x high 3 (omega arith) (omega arith)
    ∙ ap (λ (k : ℕ). bit_and (w / 64) high * 256 + k) (and_mask x 2 ∙ last) in
    let a = bit_and w low in
    let c = bit_and (w / 64) high in
    let sum : a * 256 + b % 16 + 9 * (c * 256 + b / 64) ≡ (a + 9 * c) * 256 + s = omega arith in
    (λ j. bit_and (one j + 9 * two j) (low * 256 + 15)) ∙ ap (λ (k : ℕ). bit_and k (low * 256 + 15)) sum
    ∙ and_last (a + 9 * c) s low 15 (omega arith) (omega arith)
    ∙ ap (λ (k : ℕ). digits_in w low high * 256 + k) (and_mask s 4)

digits-all : (bs : List ℕ) (w low high : ℕ) → T (every (λ b. ltb b 256) bs)
    → digits_in (packed 256 w bs) (places 15 low bs) (places 3 high bs)
    ≡ packed 256 (digits_in w low high) (map digit_of bs)
unfolding packed
digits-all [] w low high h = refl
digits-all (b ∷ bs) w low high h =
    let q = below_at 256 b bs h in
    digits-all bs (w * 256 + b) (low * 256 + 15) (high * 256 + 3) q.1
    ∙ ap (λ (v : ℕ). packed 256 v (map digit_of bs)) (digits_last w b low high q.0)

-- ---- how each digit is written
abbrev pub letters_for : ℕ → ℕ → ℕ → ℕ → ℕ
letters_for d zeros sixes ones = d + zeros + 39 * bit_and ((d + sixes) / 16) ones

hex-digit : (d : ℕ) → d < 16 → d + 48 + 39 * ((d + 6) / 16) ≡ hex_digit d
hex-digit d h = go (ltb d 10) refl
  where
    go : (t : Bool) → ltb d 10 ≡ t → d + 48 + 39 * ((d + 6) / 16) ≡ pick t (48 + d) (87 + d)
    go true e = omega (arith, ltb-true d 10 e)
    go false e = omega (arith, ltb-false d 10 e)

letters-last : (v d zeros sixes ones : ℕ) → d < 16
    → letters_for (v * 256 + d) (zeros * 256 + 48) (sixes * 256 + 6) (ones * 256 + 1)
    ≡ letters_for v zeros sixes ones * 256 + hex_digit d
letters-last v d zeros sixes ones h =
    let x = (v + sixes) % 16 * 16 + (d + 6) / 16 in
    let shifted : (v * 256 + d + (sixes * 256 + 6)) / 16 ≡ (v + sixes) / 16 * 256 + x = omega arith in
    let last : x % 2 ≡ (d + 6) / 16 = omega arith in
    let c = bit_and ((v + sixes) / 16) ones in
    let above =
    ap (λ (k : ℕ). bit_and k (ones * 256 + 1)) shifted
    ∙ and_last ((v + sixes) / 16) x ones 1 (omega arith) (omega arith)
    ∙ ap (λ (k : ℕ). c * 256 + k) (and_mask x 1 ∙ last) in
    let sum : v * 256 + d + (zeros * 256 + 48) + 39 * (c * 256 + (d + 6) / 16)
    ≡ (v + zeros + 39 * c) * 256 + (d + 48 + 39 * ((d + 6) / 16)) = omega arith in
    ap (λ (k : ℕ). v * 256 + d + (zeros * 256 + 48) + 39 * k) above ∙ sum
    ∙ ap (λ (k : ℕ). (v + zeros + 39 * c) * 256 + k) (hex-digit d h)

letters-all : (ds : List ℕ) (v zeros sixes ones : ℕ) → T (every (λ d. ltb d 16) ds)
    → letters_for (packed 256 v ds) (places 48 zeros ds) (places 6 sixes ds) (places 1 ones ds)
    ≡ packed 256 (letters_for v zeros sixes ones) (map hex_digit ds)
unfolding packed
letters-all [] v zeros sixes ones h = refl
letters-all (d ∷ ds) v zeros sixes ones h =
    let q = below_at 16 d ds h in
    letters-all ds (v * 256 + d) (zeros * 256 + 48) (sixes * 256 + 6) (ones * 256 + 1) q.1
    ∙ ap (λ (k : ℕ). packed 256 k (map hex_digit ds)) (letters-last v d zeros sixes ones q.0)

-- ---- digits two by two
abbrev pub pairs_in : ℕ → ℕ → ℕ
pairs_in d mask = bit_and (d + d / 16) mask

pairs-last : (v d e mask : ℕ) → d < 16 → e < 16
    → pairs_in ((v * 256 + d) * 256 + e) (mask * 0x1_0000 + 255) ≡ pairs_in v mask * 0x1_0000 + (d * 16 + e)
pairs-last v d e mask h k =
    let x = v % 16 * 4096 + d * 256 + d * 16 + e in
    let all = (v * 256 + d) * 256 + e in
    let sum : all + all / 16 ≡ (v + v / 16) * 0x1_0000 + x = omega arith in
    let last : x % 256 ≡ d * 16 + e = omega arith in
    ap (λ (n : ℕ). bit_and n (mask * 0x1_0000 + 255)) sum
    ∙ and_block 16 (v + v / 16) mask x 255 (omega arith) (omega arith)
    ∙ ap (λ (n : ℕ). pairs_in v mask * 0x1_0000 + n) (and_mask x 8 ∙ last)

-- ---- numbers that are the same have the same bytes
packed-same : (bs cs : List ℕ) (v u : ℕ) → length bs ≡ length cs
    → T (every (λ d. ltb d 256) bs) → T (every (λ d. ltb d 256) cs)
    → packed 256 v bs ≡ packed 256 u cs → (v ≡ u) × (bs ≡ cs)
unfolding packed
packed-same [] [] v u l h k e = (e, refl)
packed-same [] (c ∷ cs) v u l h k e = absurd (omega arith)
packed-same (b ∷ bs) [] v u l h k e = absurd (omega arith)
packed-same (b ∷ bs) (c ∷ cs) v u l h k e =
    let p = below_at 256 b bs h in
    let q = below_at 256 c cs k in
    let r = packed-same bs cs (v * 256 + b) (u * 256 + c) (omega arith) p.1 q.1 e in
    let high : v ≡ u = omega (arith, r.0) in
    let low : b ≡ c = omega (arith, r.0) in
    (high, λ j. low j ∷ r.1 j)

-- ---- all eight at once
digits-below : (bs : List ℕ) → T (every (λ d. ltb d 16) (map digit_of bs))
unfolding every
digits-below [] = tt
digits-below (b ∷ bs) =
    and-of (ltb (digit_of b) 16) _ (subst T (sym (lt-ltb (digit_of b) 16 (omega arith))) tt) (digits-below bs)

letters-below : (ds : List ℕ) → T (every (λ d. ltb d 16) ds) → T (every (λ b. ltb b 256) (map hex_digit ds))
unfolding every
letters-below [] h = tt
letters-below (d ∷ ds) h =
    let q = below_at 16 d ds h in
    let l : hex_digit d < 256 = omega (arith, hex-digit d q.0) in
    and-of (ltb (hex_digit d) 256) _ (subst T (sym (lt-ltb (hex_digit d) 256 l)) tt) (letters-below ds q.1)

module _ {w r : ℕ} where
  pub turned-digits : r ≡ digits_in w 0x0f0f_0f0f_0f0f_0f0f 0x0303_0303_0303_0303 → Turns digit_of 256 16 w r
  unfolding packed
  turned-digits e bs p = record {
    below = digits-below bs;
    eight = length-map bs digit_of ∙ p.eight;
    one =
        e
        ∙ (λ j. digits_in (p.one j) (packed 256 0 (replicate (sym p.eight j) 15))
        (packed 256 0 (replicate (sym p.eight j) 3)))
        ∙ digits-all bs 0 0 0 p.below;
  }

  pub turned-letters : r ≡ letters_for w 0x3030_3030_3030_3030 0x0606_0606_0606_0606 0x0101_0101_0101_0101
      → Turns hex_digit 16 256 w r
  unfolding packed
  turned-letters e ds p = record {
    below = letters-below ds p.below;
    eight = length-map ds hex_digit ∙ p.eight;
    one =
        e
        ∙ (λ j. letters_for (p.one j) (packed 256 0 (replicate (sym p.eight j) 48))
        (packed 256 0 (replicate (sym p.eight j) 6)) (packed 256 0 (replicate (sym p.eight j) 1)))
        ∙ letters-all ds 0 0 0 0 p.below;
  }

-- ---- pairs two by two
abbrev pub fours_in : ℕ → ℕ → ℕ
fours_in p mask = bit_and (p + p / 256) mask

fours-last : (v p q mask : ℕ) → p < 256 → q < 256
    → fours_in ((v * 0x1_0000 + p) * 0x1_0000 + q) (mask * 0x1_0000_0000 + 0xffff)
    ≡ fours_in v mask * 0x1_0000_0000 + (p * 256 + q)
fours-last v p q mask h k =
    let x = v % 256 * 0x100_0000 + p * 0x1_0000 + (p * 256 + q) in
    let all = (v * 0x1_0000 + p) * 0x1_0000 + q in
    let sum : all + all / 256 ≡ (v + v / 256) * 0x1_0000_0000 + x = omega arith in
    let last : x % 0x1_0000 ≡ p * 256 + q = omega arith in
    ap (λ (n : ℕ). bit_and n (mask * 0x1_0000_0000 + 0xffff)) sum
    ∙ and_block 32 (v + v / 256) mask x 0xffff (omega arith) (omega arith)
    ∙ ap (λ (n : ℕ). fours_in v mask * 0x1_0000_0000 + n) (and_mask x 16 ∙ last)

-- the number with so many pairs of digits
abbrev pub number_of : ℕ → ℕ
number_of p = fours_in p 0x0000_ffff_0000_ffff % 0x1_0000 + fours_in p 0x0000_ffff_0000_ffff / 0x1_0000

number-four : (p q r s : ℕ) → p < 256 → q < 256 → r < 256 → s < 256
    → number_of ((((0 * 0x1_0000 + p) * 0x1_0000 + q) * 0x1_0000 + r) * 0x1_0000 + s)
    ≡ ((p * 256 + q) * 256 + r) * 256 + s
number-four p q r s h i j k =
    let two = (0 * 0x1_0000 + p) * 0x1_0000 + q in
    let all : fours_in ((two * 0x1_0000 + r) * 0x1_0000 + s) 0x0000_ffff_0000_ffff
    ≡ (p * 256 + q) * 0x1_0000_0000 + (r * 256 + s) =
    omega (arith, fours-last 0 p q 0 h i, fours-last two r s 0xffff j k) in
    ap (λ (n : ℕ). n % 0x1_0000 + n / 0x1_0000) all ∙ number-two (p * 256 + q) (r * 256 + s) (omega arith) ∙ omega arith
  where
    number-two : (p q : ℕ) → q < 0x1_0000
        → (p * 0x1_0000_0000 + q) % 0x1_0000 + (p * 0x1_0000_0000 + q) / 0x1_0000 ≡ q + p * 0x1_0000
    number-two p q h =
        let low : (p * 0x1_0000_0000 + q) % 0x1_0000 ≡ q = omega arith in
        let high : (p * 0x1_0000_0000 + q) / 0x1_0000 ≡ p * 0x1_0000 = omega arith in
        λ l. low l + high l

spelt-eight : (a b c d e f g h : ℕ) → a < 16 → b < 16 → c < 16 → d < 16 → e < 16 → f < 16 → g < 16 → h < 16
    → number_of (pairs_in (packed 256 0 (a ∷ b ∷ c ∷ d ∷ e ∷ f ∷ g ∷ h ∷ [])) 0x00ff_00ff_00ff_00ff)
    ≡ packed 16 0 (a ∷ b ∷ c ∷ d ∷ e ∷ f ∷ g ∷ h ∷ [])
unfolding packed
spelt-eight a b c d e f g h ka kb kc kd ke kf kg kh =
    let one = packed 256 0 (a ∷ b ∷ []) in
    let two = packed 256 one (c ∷ d ∷ []) in
    let three = packed 256 two (e ∷ f ∷ []) in
    let all : pairs_in (packed 256 three (g ∷ h ∷ [])) 0x00ff_00ff_00ff_00ff
    ≡ (((0 * 0x1_0000 + (a * 16 + b)) * 0x1_0000 + (c * 16 + d)) * 0x1_0000 + (e * 16 + f)) * 0x1_0000 + (g * 16 + h) =
    omega (
      arith,
      pairs-last 0 a b 0 ka kb,
      pairs-last one c d 0xff kc kd,
      pairs-last two e f 0xff_00ff ke kf,
      pairs-last three g h 0xff_00ff_00ff kg kh,
    ) in
    ap number_of all
    ∙ number-four (a * 16 + b) (c * 16 + d) (e * 16 + f) (g * 16 + h) (omega arith) (omega arith) (omega arith)
    (omega arith)
    ∙ omega arith

-- ---- eight entries of a list
abbrev pub entries : List ℕ → List ℕ
entries ds =
    get_or ds 0 0 ∷ get_or ds 1 0 ∷ get_or ds 2 0 ∷ get_or ds 3 0 ∷ get_or ds 4 0 ∷ get_or ds 5 0 ∷ get_or ds 6 0 ∷ get_or ds 7 0 ∷ []

pub eight-entries : (ds : List ℕ) → length ds ≡ 8 → ds ≡ entries ds
eight-entries ds e =
    let none = drop_of_length-le ds {i = 8} (omega arith) in
    from 0 (omega arith) (from 1 (omega arith) (from 2 (omega arith) (from 3 (omega arith) (from 4 (omega arith)
    (from 5 (omega arith) (from 6 (omega arith) (from 7 (omega arith) none)))))))
  where
    from : (k : ℕ) {l : List ℕ} → k < length ds → drop (suc k) ds ≡ l → drop k ds ≡ get_or ds k 0 ∷ l
    from k h f = drop-cons ds k 0 h ∙ ap (λ (l : List ℕ). get_or ds k 0 ∷ l) f

pub below-entry : (n : ℕ) (ds : List ℕ) → T (every (λ d. ltb d n) ds) → (i : ℕ) → i < length ds → get_or ds i 0 < n
below-entry n [] h i l = absurd (omega arith)
below-entry n (d ∷ ds) h zero l = (below_at n d ds h).0
below-entry n (d ∷ ds) h (suc i) l = below-entry n ds (below_at n d ds h).1 i (omega arith)

pub entries_below : (n : ℕ) (ds : List ℕ) → ((i : ℕ) → get_or ds i 0 < n) → T (every (λ d. ltb d n) ds)
unfolding every
entries_below n [] h = tt
entries_below n (d ∷ ds) h =
    and-of (ltb d n) _ (subst T (sym (lt-ltb d n (h 0))) tt) (entries_below n ds (λ i. h (suc i)))

pub spelt : {w r : ℕ} → r ≡ number_of (pairs_in w 0x00ff_00ff_00ff_00ff) → Spelt w r
spelt e ds p =
    let eight = eight-entries ds p.eight in
    let below : (i : ℕ) → i < 8 → get_or ds i 0 < 16 = λ i h. below-entry 16 ds p.below i (omega (arith, p.eight)) in
    e ∙ ap (λ (v : ℕ). number_of (pairs_in v 0x00ff_00ff_00ff_00ff)) (p.one ∙ ap (packed 256 0) eight)
    ∙ spelt-eight _ _ _ _ _ _ _ _ (below 0 (omega arith)) (below 1 (omega arith)) (below 2 (omega arith))
    (below 3 (omega arith)) (below 4 (omega arith)) (below 5 (omega arith)) (below 6 (omega arith))
    (below 7 (omega arith))
    ∙ ap (packed 16 0) (sym eight)

pub packed-eight : (a b c d e f g h p q r s : ℕ) → p ≡ a * 256 + b → q ≡ c * 256 + d → r ≡ e * 256 + f
    → s ≡ g * 256 + h → (p * 0x1_0000 + q) * 0x1_0000_0000 + (r * 0x1_0000 + s)
    ≡ packed 256 0 (a ∷ b ∷ c ∷ d ∷ e ∷ f ∷ g ∷ h ∷ [])
unfolding packed
packed-eight a b c d e f g h p q r s k l m n = omega (arith, k, l, m, n)

pub bytes_packed : (bs : List ℕ) {p q r s : ℕ} → length bs ≡ 8 → ((i : ℕ) → get_or bs i 0 < 256)
    → p ≡ get_or bs 0 0 * 256 + get_or bs 1 0 → q ≡ get_or bs 2 0 * 256 + get_or bs 3 0
    → r ≡ get_or bs 4 0 * 256 + get_or bs 5 0 → s ≡ get_or bs 6 0 * 256 + get_or bs 7 0
    → Packs 256 ((p * 0x1_0000 + q) * 0x1_0000_0000 + (r * 0x1_0000 + s)) bs
bytes_packed bs l h e f g k = record {
  below = entries_below 256 bs h;
  eight = l;
  one = packed-eight _ _ _ _ _ _ _ _ _ _ _ _ e f g k ∙ ap (packed 256 0) (sym (eight-entries bs l));
}

-- numbers that are the same have the same bytes
pub same_bytes : {l w : ℕ} {cs bs : List ℕ} → Packs 256 l cs → Packs 256 w bs → eqb l w ≡ true → cs ≡ bs
same_bytes {l} {w} {cs} {bs} p q e =
    (packed-same cs bs 0 0 (p.eight ∙ sym q.eight) p.below q.below (sym p.one ∙ eqb-true l w e ∙ q.one)).1

-- the digits of the number with these digits
last-packed : (ds : List ℕ) (k v : ℕ) → T (every (λ d. ltb d 16) ds)
    → last_digits 16 (k + length ds) (packed 16 v ds) ≡ last_digits 16 k v ++ map hex_digit ds
unfolding packed last_digits
last-packed [] k v h = ap (λ (n : ℕ). last_digits 16 n v) (add-zero k) ∙ sym (append-nil (last_digits 16 k v))
last-packed (d ∷ ds) k v h =
    let q = below_at 16 d ds h in
    let more : k + suc (length ds) ≡ suc k + length ds = omega arith in
    let high : (v * 16 + d) / 16 ≡ v = omega arith in
    let low : (v * 16 + d) % 16 ≡ d = omega arith in
    ap (λ (n : ℕ). last_digits 16 n (packed 16 (v * 16 + d) ds)) more ∙ last-packed ds (suc k) (v * 16 + d) q.1
    ∙ (λ j. (last_digits 16 k (high j) ++ (hex_digit (low j) ∷ [])) ++ map hex_digit ds)
    ∙ append_snoc (last_digits 16 k v) (hex_digit d) (map hex_digit ds)

pub digits-written : (bs : List ℕ) (v : ℕ) → length bs ≡ 8 → Written bs → v ≡ packed 16 0 (map digit_of bs)
    → last_digits 16 8 v ≡ bs
unfolding last_digits
digits-written bs v l w e =
    let ds = map digit_of bs in
    let eight : 8 ≡ 0 + length ds = omega (arith, length-map bs digit_of, l) in
    (λ j. last_digits 16 (eight j) (e j)) ∙ last-packed ds 0 0 (digits-below bs) ∙ w
