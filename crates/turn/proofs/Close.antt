-- An f64 that is near a fraction, and how an operation passes that on. Sizes are counted in `unit`s, the smallest positive f64, 2 ^ -1074. Assumes nothing.
use mathlib.Core.Path.{◌≡◌, sym, subst}
use Prim.Native.Nat.{ℕ, ◌+◌, ◌-◌, ◌*◌, ◌^◌, ◌≤◌, ◌<◌}
use native.Mathlib.Nat.{le_trans, le_of_eq, lt_of_le_of_lt, mul-pos, mul-one, one-mul, mul_assoc, mul-le-mul, mul-le-mul_left, mul-le-mul_right, mul-mul-mul_comm, zero-lt-suc}
use native.Mathlib.Omega.{arith}
use mathlib.Core.Bool.{false}
use lib.Dec.{lit≤, lit<}
use lib.Pow.{pow_pos}
use lib.Ieee.{Float, binary64, round}
use lib.Ieee.Exact.{HasValue}
use lib.Ieee.Scale.{grid, round_val}
use Rattle.float.specs.F64.{◌⊕◌, ◌⊖◌, ◌⊗◌, ◌⊘◌}
use Rattle.float.proofs.Near.{Within, grid-near}
use Rattle.turn.specs.Weight.{int}
use Rattle.turn.proofs.Near.{Off, cancel, bound, mul-off, div-off, sub-off, one-off}
use Rattle.turn.proofs.Values.{mul_val, add-val, sub_val, div-val, int-val}

-- how many units 1 has, and how many one rounding of a value up to 4095 may be off: 2 ^ -42
unfoldable pub unit : ℕ
unit = 2 ^ 1074

unfoldable pub err : ℕ
err = 2 ^ 1032

pub unit-pos : 0 < unit
unfolding unit
unit-pos = pow_pos 1074

pub err-le : (k : ℕ) → k ≤ 2 ^ 42 → k * err ≤ unit
unfolding unit err
err-le k h = mul-le-mul_right (2 ^ 1032) h

-- x is within e units of a / b
pub record Close (x : Float) (a b e : ℕ) : Type 0 where
  pub at : ℕ
  pub is : HasValue x false at unit
  pub off : Off (at * b) (a * unit) (e * b)

-- ---- one rounding
rounded-off : (a b : ℕ) → 0 < b → a ≤ 4095 * b → Off (grid binary64 a b * b) (a * unit) (err * b)
unfolding unit err
rounded-off a b B h = halve (grid binary64 a b * b) (a * 2 ^ 1074) b (2 ^ 1032) (grid-near binary64 a b 1033 B (below (2 ^ 1074) (pow_pos 1074)))
  where
    below : (L : ℕ) → 0 < L → a * L < 4096 * L * b
    below L P = omega (arith, mul-le-mul_right L h, mul-pos B P)

    halve : (x y b E : ℕ) → Within x y (b * (2 * E)) → Off x y (E * b)
    halve x y b E w = omega arith

pub close-round : {x : Float} (a b : ℕ) → 0 < b → a ≤ 4095 * b → x ≡ round binary64 false a b → Close x a b err
unfolding unit
close-round {x} a b B h e = record {
  at = grid binary64 a b;
  is =
      subst (λ (z : Float). HasValue z false (grid binary64 a b) unit) (sym e)
      (round_val binary64 a b (lt_of_le_of_lt (bound unit (grid binary64 a b) a b err 4095 B (rounded-off a b B h) h (le_trans (le_of_eq (sym (one-mul err))) (err-le 1 (lit≤ tt)))) (lit< tt)));
  off = rounded-off a b B h;
}

-- ---- a larger error, and another way to write the fraction
pub close_more : {x : Float} {a b e : ℕ} (e' : ℕ) → Close x a b e → e ≤ e' → Close x a b e'
close_more {x} {a} {b} {e} e' p h = record { at = p.at; is = p.is; off = omega (arith, p.off, mul-le-mul_right b h) }

pub close-as : {x : Float} {a b e : ℕ} (a' b' e' : ℕ) → Close x a b e → a ≡ a' → b ≡ b' → e ≤ e' → Close x a' b' e'
close-as {x} {a} {b} {e} a' b' e' p h k l = subst (λ (z : ℕ). Close x z b' e') h (subst (λ (z : ℕ). Close x a z e') k (close_more e' p l))

-- how large a value is that is near a fraction of at most A
pub close-bound : {x : Float} {a b e : ℕ} (A : ℕ) (p : Close x a b e) → 0 < b → a ≤ A * b → e ≤ unit → p.at ≤ (A + 1) * unit
close-bound {x} {a} {b} {e} A p B ha he = bound unit p.at a b e A B p.off ha he

-- ---- the operations; the error of each is of its rounding at W / (K * unit)
unscaled : (K W Z : ℕ) → Off (Z * (K * unit)) (W * unit) (err * (K * unit)) → Off (Z * K) W (err * K)
unscaled K W Z h = cancel unit (Z * K) W (err * K) unit-pos (omega arith)

-- the product of X / K, near a / b, and y
pub close-product : (x : Float) {y : Float} (a b e X K A F : ℕ) {a' b' e' : ℕ} → 0 < K → HasValue x false X K → Off (X * b) (a * K) (e * b) → (q : Close y a' b' e') → a ≤ A * b → e * q.at ≤ F * K → X * q.at ≤ 4095 * (K * unit)
    → Close (x ⊗ y) (a * a') (b * b') (F + A * e' + err)
close-product x {y} a b e X K A F {a'} {b'} {e'} P is_x off-x q ha he room =
    let r = close-round (X * q.at) (K * unit) (mul-pos P unit-pos) room (mul_val x y false X K q.at unit P unit-pos is_x q.is) in
    record { at = r.at; is = r.is; off = mul-off K unit err X q.at r.at a b e a' b' e' A F P off-x q.off ha he (unscaled K (X * q.at) r.at r.off) }

pub close-mul : {x y : Float} {a b e a' b' e' : ℕ} (A W U : ℕ) (p : Close x a b e) (q : Close y a' b' e') → a ≤ A * b → p.at ≤ W * unit → q.at ≤ U * unit → W * U ≤ 4095
    → Close (x ⊗ y) (a * a') (b * b') (e * U + A * e' + err)
close-mul {x} {y} {a} {b} {e} A W U p q ha hw hu wu =
    close-product x a b e p.at unit A (e * U) unit-pos p.is p.off q ha (le_trans (mul-le-mul_left e hu) (le_of_eq (sym (mul_assoc e U unit))))
    (le_trans (mul-le-mul hw hu) (le_trans (le_of_eq (mul-mul-mul_comm W unit U unit)) (mul-le-mul_right (unit * unit) wu)))

-- the quotient by a whole number k
pub close-div : {x : Float} {a b e : ℕ} (k W e' : ℕ) → 0 < k → k < 2 ^ 53 → (p : Close x a b e) → p.at ≤ W * unit → W ≤ 4095 → e + err * k ≤ e' * k → Close (x ⊘ int k) a (b * k) e'
close-div {x} {a} {b} {e} k W e' K small p hw w he =
    let r = close-round (p.at * 1) (k * unit) (mul-pos K unit-pos) (room p.at unit hw) (div-val x (int k) p.at unit k 1 unit-pos K p.is (int-val k small)) in
    record { at = r.at; is = r.is; off = div-off unit err p.at r.at k a b e e' p.off he (unscaled k (p.at * 1) r.at r.off) }
  where
    room : (X L : ℕ) → X ≤ W * L → X * 1 ≤ 4095 * (k * L)
    room X L h = omega (arith, mul-le-mul_right L w, mul-le-mul_right L K)

-- the difference from a whole number n
pub close-sub : {y : Float} {a b e : ℕ} (n d : ℕ) → n ≤ 4095 → (p : Close y a b e) → p.at ≤ n * unit → d + a ≡ n * b → Close (int n ⊖ y) d b (e + err)
close-sub {y} {a} {b} {e} n d few p hy hd =
    let r = close-round (n * unit - p.at * 1) (1 * unit) (mul-pos (zero-lt-suc 0) unit-pos) (room p.at unit) (sub_val (int n) y n 1 p.at unit (zero-lt-suc 0) unit-pos (int-val n (lt_of_le_of_lt few (lit< tt))) p.is (le_trans (le_of_eq (mul-one p.at)) hy)) in
    record { at = r.at; is = r.is; off = sub-off unit err n p.at r.at a b e d p.off hd hy (unscaled 1 (n * unit - p.at * 1) r.at r.off) }
  where
    room : (Y L : ℕ) → n * L - Y * 1 ≤ 4095 * (1 * L)
    room Y L = omega (arith, mul-le-mul_right L few)

-- the sum with 1
pub close-one-plus : {y : Float} {a b e : ℕ} (W : ℕ) → (p : Close y a b e) → p.at ≤ W * unit → W ≤ 4094 → Close (int 1 ⊕ y) (b + a) b (e + err)
close-one-plus {y} {a} {b} {e} W p hy w =
    let r = close-round (1 * unit + p.at * 1) (1 * unit) (mul-pos (zero-lt-suc 0) unit-pos) (room p.at unit hy) (add-val (int 1) y 1 1 p.at unit (zero-lt-suc 0) unit-pos (int-val 1 (lit< tt)) p.is) in
    record { at = r.at; is = r.is; off = one-off unit err p.at r.at a b e p.off (unscaled 1 (1 * unit + p.at * 1) r.at r.off) }
  where
    room : (Y L : ℕ) → Y ≤ W * L → 1 * L + Y * 1 ≤ 4095 * (1 * L)
    room Y L h = omega (arith, mul-le-mul_right L w)
