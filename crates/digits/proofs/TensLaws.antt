-- The number with eight decimal digits, which stand in one number, the first one lowest. Assumes nothing.
use mathlib.Core.Path.{◌≡◌, sym, ap, ◌∙◌}
use mathlib.Core.List.{[], ◌∷◌}
use Prim.Native.Nat.{ℕ, ◌+◌, ◌*◌, ◌/◌, ◌%◌, ◌<◌}
use native.Mathlib.Omega.{arith}
use lib.Bits.{bit_and, and_block, and_mask}
use lib.ListN.{get_or}
use Rattle.digits.specs.Packed.{packed, mirrored, Tens}
use Rattle.digits.proofs.EightLaws.{below-entry, eight-entries}

abbrev pub tens_in : ℕ → ℕ → ℕ
tens_in d mask = bit_and (d * 10 + d / 256) mask

tens-last : (v e f mask : ℕ) → v % 256 < 10 → e < 10 → f < 10
    → tens_in ((v * 256 + e) * 256 + f) (mask * 0x1_0000 + 255) ≡ tens_in v mask * 0x1_0000 + (f * 10 + e)
tens-last v e f mask h k l =
    let x = (v % 256 + e * 10) * 256 + (f * 10 + e) in
    let all = (v * 256 + e) * 256 + f in
    let sum : all * 10 + all / 256 ≡ (v * 10 + v / 256) * 0x1_0000 + x = omega arith in
    let last : x % 256 ≡ f * 10 + e = omega arith in
    ap (λ (n : ℕ). bit_and n (mask * 0x1_0000 + 255)) sum
    ∙ and_block 16 (v * 10 + v / 256) mask x 255 (omega arith) (omega arith)
    ∙ ap (λ (n : ℕ). tens_in v mask * 0x1_0000 + n) (and_mask x 8 ∙ last)

abbrev pub hundreds_in : ℕ → ℕ → ℕ
hundreds_in d mask = bit_and (d * 100 + d / 0x1_0000) mask

hundreds-last : (v e f mask : ℕ) → v % 0x1_0000 < 100 → e < 100 → f < 100
    → hundreds_in ((v * 0x1_0000 + e) * 0x1_0000 + f) (mask * 0x1_0000_0000 + 0xffff)
    ≡ hundreds_in v mask * 0x1_0000_0000 + (f * 100 + e)
hundreds-last v e f mask h k l =
    let x = (v % 0x1_0000 + e * 100) * 0x1_0000 + (f * 100 + e) in
    let all = (v * 0x1_0000 + e) * 0x1_0000 + f in
    let sum : all * 100 + all / 0x1_0000 ≡ (v * 100 + v / 0x1_0000) * 0x1_0000_0000 + x = omega arith in
    let last : x % 0x1_0000 ≡ f * 100 + e = omega arith in
    ap (λ (n : ℕ). bit_and n (mask * 0x1_0000_0000 + 0xffff)) sum
    ∙ and_block 32 (v * 100 + v / 0x1_0000) mask x 0xffff (omega arith) (omega arith)
    ∙ ap (λ (n : ℕ). hundreds_in v mask * 0x1_0000_0000 + n) (and_mask x 16 ∙ last)

abbrev pub number_of : ℕ → ℕ
number_of q = q % 0x1_0000 * 10000 + q / 0x1_0000_0000

number-two : (p q : ℕ) → q < 10000 → number_of (p * 0x1_0000_0000 + q) ≡ q * 10000 + p
number-two p q h =
    let low : (p * 0x1_0000_0000 + q) % 0x1_0000 ≡ q = omega arith in
    let high : (p * 0x1_0000_0000 + q) / 0x1_0000_0000 ≡ p = omega arith in
    λ j. low j * 10000 + high j

tens-pairs : (a b c d e f g h : ℕ) → a < 10 → b < 10 → c < 10 → d < 10 → e < 10 → f < 10 → g < 10 → h < 10
    → tens_in (packed 256 0 (a ∷ b ∷ c ∷ d ∷ e ∷ f ∷ g ∷ h ∷ [])) 0x00ff_00ff_00ff_00ff
    ≡ (((0 * 0x1_0000 + (b * 10 + a)) * 0x1_0000 + (d * 10 + c)) * 0x1_0000 + (f * 10 + e)) * 0x1_0000 + (h * 10 + g)
unfolding packed
tens-pairs a b c d e f g h ka kb kc kd ke kf kg kh =
    let one = packed 256 0 (a ∷ b ∷ []) in
    let two = packed 256 one (c ∷ d ∷ []) in
    let three = packed 256 two (e ∷ f ∷ []) in
    omega (
      arith,
      tens-last 0 a b 0 (omega arith) ka kb,
      tens-last one c d 0xff (omega arith) kc kd,
      tens-last two e f 0xff_00ff (omega arith) ke kf,
      tens-last three g h 0xff_00ff_00ff (omega arith) kg kh,
    )

hundreds-pairs : (p q r s : ℕ) → p < 100 → q < 100 → r < 100 → s < 100
    → number_of (hundreds_in ((((0 * 0x1_0000 + p) * 0x1_0000 + q) * 0x1_0000 + r) * 0x1_0000 + s) 0x0000_ffff_0000_ffff)
    ≡ (s * 100 + r) * 10000 + (q * 100 + p)
hundreds-pairs p q r s kp kq kr ks =
    let two = (0 * 0x1_0000 + p) * 0x1_0000 + q in
    let all : hundreds_in ((two * 0x1_0000 + r) * 0x1_0000 + s) 0x0000_ffff_0000_ffff
    ≡ (q * 100 + p) * 0x1_0000_0000 + (s * 100 + r) =
    omega (
      arith,
      hundreds-last 0 p q 0 (omega arith) kp kq,
      hundreds-last two r s 0xffff (omega arith) kr ks,
    ) in
    ap number_of all ∙ number-two (q * 100 + p) (s * 100 + r) (omega arith)

pub tens : {w r : ℕ} → r ≡ number_of (hundreds_in (tens_in w 0x00ff_00ff_00ff_00ff) 0x0000_ffff_0000_ffff) → Tens w r
unfolding packed
tens e ds l p =
    let b : (i : ℕ) → i < 8 → get_or (mirrored ds) i 0 < 10 = λ i k. below-entry 10 (mirrored ds) p.below i k in
    e ∙ ap (λ (v : ℕ). number_of (hundreds_in (tens_in v 0x00ff_00ff_00ff_00ff) 0x0000_ffff_0000_ffff)) p.one
    ∙ eight _ _ _ _ _ _ _ _ (b 0 (omega arith)) (b 1 (omega arith)) (b 2 (omega arith)) (b 3 (omega arith))
    (b 4 (omega arith)) (b 5 (omega arith)) (b 6 (omega arith)) (b 7 (omega arith))
    ∙ ap (packed 10 0) (sym (eight-entries ds l))
  where
    eight : (a b c d e f g h : ℕ) → a < 10 → b < 10 → c < 10 → d < 10 → e < 10 → f < 10 → g < 10 → h < 10
        → number_of (hundreds_in (tens_in (packed 256 0 (a ∷ b ∷ c ∷ d ∷ e ∷ f ∷ g ∷ h ∷ [])) 0x00ff_00ff_00ff_00ff)
        0x0000_ffff_0000_ffff)
        ≡ packed 10 0 (h ∷ g ∷ f ∷ e ∷ d ∷ c ∷ b ∷ a ∷ [])
    eight a b c d e f g h ka kb kc kd ke kf kg kh =
        ap (λ (v : ℕ). number_of (hundreds_in v 0x0000_ffff_0000_ffff))
        (tens-pairs a b c d e f g h ka kb kc kd ke kf kg kh)
        ∙ hundreds-pairs (b * 10 + a) (d * 10 + c) (f * 10 + e) (h * 10 + g) (omega arith) (omega arith) (omega arith)
        (omega arith)
        ∙ omega arith
