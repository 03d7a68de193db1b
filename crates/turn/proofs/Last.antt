-- The last rounding, to an f32, of a value Z / L up to 1 + 2 ^ -26, and what it leaves of the bounds. Assumes nothing.
use mathlib.Core.Path.{◌≡◌, sym, ap, subst}
use Prim.Native.Nat.{ℕ, ◌+◌, ◌-◌, ◌*◌, ◌/◌, ◌^◌, ◌≤◌, ◌<◌}
use native.Mathlib.Decide.{dec_le}
use native.Mathlib.Nat.{le_antisymm, le_of_suc-le-suc, lt_of_not-le, lt_of_mul-lt-mul_right, le_of_mul-le-mul_right, mul-pos, mul-le-mul_right, le-div_iff_mul-le, div-lt_iff_lt-mul}
use native.Mathlib.Omega.{arith}
use mathlib.Core.Bool.{false}
use lib.Dec.{lit<}
use lib.Pow.{pow_pos}
use lib.Ieee.{Float, binary32, round, size}
use lib.Ieee.Exact.{HasValue}
use lib.Ieee.Nearest.{closest}
use lib.Ieee.Scale.{grid, round_val}
use Rattle.float.specs.Narrow.{narrow_of}
use Rattle.float.proofs.Narrowing.{of-value}
use Rattle.float.proofs.Near.{Within, closest-near, narrow-near}
use Rattle.float.proofs.Pack.{size_is}
use Rattle.turn.specs.Bounds.{AtMost}
use Rattle.turn.proofs.Near.{Off, times, cancel}

-- ---- from 1 on it rounds to 1; u is 2 ^ 126 units, of which 1 has 2 ^ 23
at_one : (Z L u : ℕ) → 0 < L → 0 < u → L ≤ Z → Z * 2 ^ 26 ≤ L * (2 ^ 26 + 1) → closest (Z * (2 ^ 23 * u)) (L * u) ≡ 2 ^ 23
at_one Z L u P U h g = squeezed (closest (Z * (2 ^ 23 * u)) (L * u)) (closest-near (Z * (2 ^ 23 * u)) (L * u) (mul-pos P U))
  where
    squeezed : (q : ℕ) → Within (q * (L * u)) (Z * (2 ^ 23 * u)) (L * u) → q ≡ 2 ^ 23
    squeezed q w =
        le_antisymm (le_of_suc-le-suc (lt_of_mul-lt-mul_right (L * u) (omega (arith, mul-pos P U, mul-le-mul_right u g))))
        (lt_of_mul-lt-mul_right (L * u) (omega (arith, mul-pos P U, mul-le-mul_right u h)))

grid-one : (Z L : ℕ) → 0 < L → L ≤ Z → Z * 2 ^ 26 ≤ L * (2 ^ 26 + 1) → grid binary32 Z L ≡ 2 ^ 149
grid-one Z L P h g =
    subst (λ (k : ℕ). closest (Z * 2 ^ 149) (L * 2 ^ k) * 2 ^ k ≡ 2 ^ 149) (sym dropped) (ap (λ (x : ℕ). x * 2 ^ 126) (at_one Z L (2 ^ 126) P (pow_pos 126) h g))
  where
    upper : (M : ℕ) → 0 < M → Z * M < 2 * M * L
    upper M Q = omega (arith, mul-le-mul_right M g, mul-pos P Q)

    lower : (M : ℕ) → M * L ≤ Z * M
    lower M = omega (arith, mul-le-mul_right M h)

    dropped : size (Z * 2 ^ 149 / L) - 24 ≡ 126
    dropped = ap (λ (x : ℕ). x - 24) (size_is 149 (Z * 2 ^ 149 / L) ((le-div_iff_mul-le P).1 (lower (2 ^ 149))) ((div-lt_iff_lt-mul P).1 (upper (2 ^ 149) (pow_pos 149))))

-- ---- so in any case it rounds to g units of 2 ^ -149, at most 2 ^ -25 away
pub narrow-close : (z : Float) (Z L : ℕ) → 0 < L → Z * 2 ^ 26 ≤ L * (2 ^ 26 + 1) → HasValue z false Z L
    → (g : ℕ) × HasValue (narrow_of z) false g (2 ^ 149) × Within (g * L) (Z * 2 ^ 149) (L * 2 ^ 125)
narrow-close z Z L P h v = elim (dec_le L Z) [
  | yes k ↦ (
    2 ^ 149,
    subst (λ (x : Float). HasValue x false (2 ^ 149) (2 ^ 149)) (sym (of-value z false Z L P v))
        (subst (λ (x : ℕ). HasValue (round binary32 false Z L) false x (2 ^ 149)) (grid-one Z L P k h) (round_val binary32 Z L (subst (λ (x : ℕ). x < 2 ^ 277) (sym (grid-one Z L P k h)) (lit< tt)))),
    near (2 ^ 125) k,
  )
  | no k ↦ narrow-near z Z L P (lt_of_not-le k) v
]
  where
    near : (H : ℕ) → L ≤ Z → Within (2 ^ 24 * H * L) (Z * (2 ^ 24 * H)) (L * H)
    near H k = omega (arith, mul-le-mul_right H k, mul-le-mul_right H h)

-- the distance as one of fractions: p / q is g / 2 ^ 149, the rounded value
pub as-fraction : (g Z L p q : ℕ) → p * 2 ^ 149 ≡ g * q → Within (g * L) (Z * 2 ^ 149) (L * 2 ^ 125) → Off (p * L * 2 ^ 25) (Z * q * 2 ^ 25) (q * L)
as-fraction g Z L p q = go (2 ^ 125) (pow_pos 125)
  where
    go : (H : ℕ) → 0 < H → p * (2 ^ 24 * H) ≡ g * q → Within (g * L) (Z * (2 ^ 24 * H)) (L * H) → Off (p * L * 2 ^ 25) (Z * q * 2 ^ 25) (q * L)
    go H k e w = cancel H (p * L * 2 ^ 25) (Z * q * 2 ^ 25) (q * L) k (omega (arith, ap (λ (x : ℕ). x * L) e, mul-le-mul_right q w.0, mul-le-mul_right q w.1))

-- ---- the bounds: p / q is within 2 ^ -25 of Z / L, which is within e / L of x / y; e / L is at most 2 ^ -26, and t / y at most 2 ^ -40
pub sides : (L Z p q x y e t : ℕ) → 0 < L → Off (p * L * 2 ^ 25) (Z * q * 2 ^ 25) (q * L) → Off (Z * y) (x * L) (e * y) → e * 2 ^ 26 ≤ L → t * 2 ^ 40 ≤ y → AtMost p q x y × AtMost (x + t) y p q
sides L Z p q x y e t P hw hz he ht =
    let s = linear (p * L * y) (Z * q * y) (q * L * y) (x * L * q) (e * y * q) (t * L * q) (omega (arith, times y hw)) (omega (arith, times q hz)) (omega (arith, mul-le-mul_right (y * q) he)) (omega (arith, mul-le-mul_right (L * q) ht)) in
    (le_of_mul-le-mul_right (omega (arith, s.0)) P, le_of_mul-le-mul_right (omega (arith, s.1)) P)
  where
    linear : (p z l x e t : ℕ) → Off (p * 2 ^ 25) (z * 2 ^ 25) l → Off z x e → e * 2 ^ 26 ≤ l → t * 2 ^ 40 ≤ l → (p * 2 ^ 24 ≤ x * 2 ^ 24 + l) × ((x + t) * 2 ^ 24 ≤ p * 2 ^ 24 + l)
    linear p z l x e t g h i j = omega arith
