-- The root is the nearest value, said in squares: the exact root of n / d lies between r - 1/2 and r + 1/2, r the whole number that `closest_root` gives. Assumes nothing.
use Rattle.std.proofs.Common.{◌≡◌, ℕ, zero, suc, ◌+◌, ◌-◌, ◌*◌, ◌/◌, ◌%◌, ◌^◌, ◌<◌, ◌≤◌, false, ℤ, sym, refl, ap, ◌∙◌, subst, le_trans, le_of_eq, le_of_lt, mul-le-mul_right, mul_assoc, mul_comm, div-lt_iff_lt-mul, mul-le-mul_left, mul-pos, le-div_iff_mul-le, arith, pow_pos}
use Prim.Native.Nat.{compare, Ordering}
use lib.Ieee.{Float, fin, Format, prec, low, up, down, size, nearest, units}
use lib.Ieee.Fits.{down_pos}
use Rattle.float.specs.Sqrt.{isqrt, closest_root, root_round, sqrt_of}
use Rattle.float.proofs.Closest.{Cmp, cmp}
use Rattle.square_root.proofs.Squares.{isqrt-root, square-mono, four}

abbrev pub HalfNear : ℕ → ℕ → ℕ → Type 0
HalfNear n d r = ((2 * r - 1) * (2 * r - 1) * d ≤ 4 * n) × (4 * n ≤ (2 * r + 1) * (2 * r + 1) * d)

times : (a b d : ℕ) → a ≤ b → a * a * d ≤ b * b * d
times a b d h = mul-le-mul_right d (square-mono a b h)

-- 4 times a square is the square of the double
fourfold : (q d : ℕ) → 2 * q * (2 * q) * d ≡ 4 * (q * q * d)
fourfold q d = ap (λ (x : ℕ). x * d) (four q ∙ mul_comm (q * q) 4) ∙ mul_assoc 4 (q * q) d

module _ (n d q : ℕ) (lo : q * q * d ≤ n) (hi : n < (q + 1) * (q + 1) * d) where
  stays-lo : (2 * q - 1) * (2 * q - 1) * d ≤ 4 * n
  stays-lo = le_trans (times (2 * q - 1) (2 * q) d (less q)) (le_trans (le_of_eq (fourfold q d)) (mul-le-mul_left 4 lo))
    where
      less : (q : ℕ) → 2 * q - 1 ≤ 2 * q
      less q = omega arith

  moves-hi : 4 * n ≤ (2 * suc q + 1) * (2 * suc q + 1) * d
  moves-hi = le_trans (mul-le-mul_left 4 (le_of_lt hi)) (le_trans (le_of_eq (sym (fourfold (q + 1) d))) (times (2 * (q + 1)) (2 * suc q + 1) d (more q)))
    where
      more : (q : ℕ) → 2 * (q + 1) ≤ 2 * suc q + 1
      more q = omega arith

  moves-lo : (2 * q + 1) * (2 * q + 1) * d ≤ 4 * n → (2 * suc q - 1) * (2 * suc q - 1) * d ≤ 4 * n
  moves-lo h = subst (λ (x : ℕ). x * x * d ≤ 4 * n) (same q) h
    where
      same : (q : ℕ) → 2 * q + 1 ≡ 2 * suc q - 1
      same q = omega arith

  by-case : (o : Ordering) → Cmp o (4 * n) ((2 * q + 1) * (2 * q + 1) * d) → HalfNear n d (nearest q o)
  by-case Ordering.lt c = (stays-lo, le_of_lt c)
  by-case Ordering.gt c = (moves-lo (le_of_lt c), moves-hi)
  by-case Ordering.eq c = go (q % 2) (last q)
    where
      last : (x : ℕ) → x % 2 < 2
      last x = omega arith

      none : (x : ℕ) → x ≡ x + 0
      none x = omega arith

      one : (x : ℕ) → suc x ≡ x + 1
      one x = omega arith

      no : (b : ℕ) → suc (suc b) < 2 → ⊥
      no b h = omega arith

      go : (b : ℕ) → b < 2 → HalfNear n d (q + b)
      go zero h = subst (λ (x : ℕ). HalfNear n d x) (none q) (stays-lo, le_of_eq c)
      go (suc zero) h = subst (λ (x : ℕ). HalfNear n d x) (one q) (moves-lo (le_of_eq (sym c)), moves-hi)
      go (suc (suc b)) h = absurd (no b h)

pub closest-root-near : (n d : ℕ) → 0 < d → HalfNear n d (closest_root n d)
unfolding closest_root
closest-root-near n d p =
    let q = isqrt (n / d) in
    let r = isqrt-root (n / d) in
    by-case n d q ((le-div_iff_mul-le p).0 r.0) ((div-lt_iff_lt-mul p).0 r.1) (compare (4 * n) ((2 * q + 1) * (2 * q + 1) * d)) (cmp (4 * n) ((2 * q + 1) * (2 * q + 1) * d))

-- y is `kept` times 2 ^ `dropped` of the format's smallest values, and the exact root of num / den is within half a unit of the last kept digit
pub record NearestRoot (f : Format) (num den : ℕ) (y : Float) : Type 0 where
  pub kept : ℕ
  pub dropped : ℕ
  pub is : y ≡ units f false kept dropped
  pub near : HalfNear (num * 2 ^ (low f + low f)) (den * 2 ^ (dropped + dropped)) kept

-- the root of a positive value, whose size is (suc m * up e) / down e
pub sqrt-nearest : (f : Format) (m : ℕ) (e : ℤ) → NearestRoot f (suc m * up e) (down e) (sqrt_of f (fin false (suc m) e))
unfolding sqrt_of root_round
sqrt-nearest f m e =
    let n = suc m * up e * 2 ^ (low f + low f) in
    let k = size (isqrt (n / down e)) - prec f in
    record {
      kept = closest_root n (down e * 2 ^ (k + k));
      dropped = k;
      is = refl;
      near = closest-root-near n (down e * 2 ^ (k + k)) (mul-pos (down_pos e) (pow_pos (k + k)));
    }
