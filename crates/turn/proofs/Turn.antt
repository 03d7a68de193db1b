-- The turn weight: its bounds at every v from 0 to 1 and every c from 0 to below 1, zeros of either sign included; a NaN in v or c gives a NaN; and two worked values. Assumes nothing.
use mathlib.Core.Path.{◌≡◌, refl, sym, ◌∙◌, subst}
use Prim.Native.Nat.{ℕ, zero, suc, zero-le, ◌+◌, ◌*◌, ◌^◌, ◌≤◌, ◌<◌}
use native.Mathlib.Nat.{eq_of_mul-eq-mul_right, le_trans, le_of_eq, le_of_mul-le-mul_right, mul-pos, mul-one, zero-mul, mul-le-mul_right, zero-lt-suc}
use native.Mathlib.Omega.{arith}
use mathlib.Core.Bool.{Bool, true, false, ◌||◌}
use lib.IntN.{ℤ}
use lib.Dec.{T, lit≤, eqb, eqb→eq}
use lib.Pow.{pow_pos}
use lib.Ieee.{Float, nan, inf, fin, Format, binary32, binary64, prec, low, emax, up, down, round, add, sub, mul, div, neg, le, lt, eq, of_int}
use lib.Ieee.Bits.{is_true}
use lib.Ieee.Fits.{and_i, and_l, eq→eqb}
use lib.Ieee.Exact.{HasValue, round_exact}
use lib.Ieee.Order.{le_of_values}
use lib.Ieee.Positive as P
use lib.Ieee.Scale.{finite}
use Rattle.float.specs.F64.{◌⊖◌, ◌⊗◌}
use Rattle.float.specs.Narrow.{narrow_of}
use Rattle.float.proofs.Narrowing.{of-value}
use Rattle.turn.specs.Weight.{int, step, steps, series, weight, zero_f, one_f, half_f}
use Rattle.turn.specs.Bounds.{before, top, AtMost, sum_top, sum_bot, Bounds}
use Rattle.turn.proofs.Values.{apart, mul_val, values_of_le}
use Rattle.turn.proofs.Close.{unit, unit-pos, err, err-le}
use Rattle.turn.proofs.Exact.{part-le-one, parts_below, next_small}
use Rattle.turn.proofs.Step.{bot-pos}
use Rattle.turn.proofs.SeriesClose.{rest-close, series-close}
use Rattle.turn.proofs.Last.{narrow-close, as-fraction, sides}

-- ---- NaN
pub weight-nan-v : (c : Float) → weight nan c ≡ nan
unfolding weight series narrow_of mul
weight-nan-v c = refl

mul-nan : (x : Float) → x ⊗ nan ≡ nan
unfolding mul
mul-nan nan = refl
mul-nan (inf s) = refl
mul-nan (fin s m e) = refl

step-nan : (i : ℕ) (vv g : Float) → step i vv nan g ≡ nan
unfolding step div mul add of_int
step-nan i vv g = rw (mul-nan (int (i * i) ⊖ vv))

steps-nan : (k : ℕ) (vv g : Float) → steps (suc k) vv nan g ≡ nan
unfolding steps
steps-nan zero vv g = step-nan 1 vv g
steps-nan (suc k) vv g = steps-nan k vv (step (suc (suc k)) vv nan g)

less-nan : int 1 ⊖ nan ≡ nan
unfolding sub neg add of_int
less-nan = refl

pub weight-nan-c : (v : Float) → weight v nan ≡ nan
unfolding weight series narrow_of
weight-nan-c v = rw (less-nan, steps-nan 39 (v ⊗ v) (int 1), mul-nan v)

-- ---- the worked examples: c = 0.5, v = 0 and v = 1
pub weight-of-0 : weight zero_f half_f ≡ zero_f
unfolding weight series steps step narrow_of add sub mul div neg of_int round
weight-of-0 = refl

pub weight-of-1 : weight one_f half_f ≡ one_f
unfolding weight series steps step narrow_of add sub mul div neg of_int round
weight-of-1 = refl

-- ---- a value from 0 to 1, as a fraction
record Range (x : Float) : Type 0 where
  sign : Bool
  is : HasValue x sign (P.num x) (P.den x)
  null : T sign → P.num x ≡ 0
  small : P.num x ≤ P.den x

zero-size : (m : ℕ) (e : ℤ) → T (le zero_f (fin true m e)) → m * up e ≡ 0
unfolding le
zero-size m e h = sym (mul-one (m * up e)) ∙ sym (eqb→eq (0 * down e) (m * up e * 1) (and_l (eqb (0 * down e) (m * up e * 1)) (eqb (0 * down e) 0) h)) ∙ zero-mul (down e)

range : (x : Float) → T (le zero_f x) → T (le x one_f) → Range x
unfolding le
range nan h k = absurd h
range (inf true) h k = absurd h
range (inf false) h k = absurd k
range (fin false m e) h k = record { sign = false; is = (refl, refl); null = λ t. absurd t; small = omega (arith, values_of_le (fin false m e) one_f (m * up e) (down e) 1 1 (refl, refl) (refl, refl) k) }
range (fin true m e) h k = record { sign = true; is = (refl, refl); null = λ t. zero-size m e h; small = le_trans (le_of_eq (zero-size m e h)) zero-le }

lt-le : (x y : Float) → T (lt x y) → T (le x y)
unfolding le
lt-le x y h = subst (λ (t : Bool). T (t || eq x y)) (sym (is_true (lt x y) h)) tt

-- ---- zeros
zero-times : {x : ℕ} (y : ℕ) → x ≡ 0 → x * y ≡ 0
zero-times y z = rw z (zero-mul y)

-- `round` keeps a zero
zero-kept : (f : Format) (s : Bool) (a c : ℕ) → 0 < c → a ≡ 0 → HasValue (round f s a c) s a c
zero-kept f s a c C z = round_exact f s a c 0 0 C (pow_pos (prec f)) (pow_pos (low f + suc (emax f))) (zero-times (2 ^ low f) z ∙ sym (zero-mul c))

zero-num : (w : Float) (s : Bool) (a c : ℕ) → 0 < c → a ≡ 0 → HasValue w s a c → P.num w ≡ 0
zero-num w s a c C z h = apart (λ x. P.num x ≡ 0) w s a c h λ m e k. eq_of_mul-eq-mul_right c C (m * up e) 0 (k ∙ zero-times (down e) z ∙ sym (zero-mul c))

zero_at_most : (x y u w : ℕ) → x ≡ 0 → AtMost x y u w
zero_at_most x y u w z = le_trans (le_of_eq (zero-times _ z)) zero-le

-- a value that is not negative, or -0, is 0 at least
from_zero : (w : Float) (s : Bool) (a c : ℕ) → 0 < c → (T s → a ≡ 0) → HasValue w s a c → T (finite w) × T (le zero_f w)
unfolding le
from_zero w false a c C z h = (apart (λ x. T (finite x)) w false a c h (λ m e k. tt), le_of_values zero_f w 0 1 a c (zero-lt-suc 0) C (refl, refl) h (le_trans (le_of_eq (zero-mul c)) zero-le))
from_zero w true a c C z h =
    apart (λ x. P.num x ≡ 0 → T (finite x) × T (le zero_f x)) w true a c h
    (λ m e k n. (tt, and_i (eqb (0 * down e) (m * up e * 1)) (eqb (0 * down e) 0) (eq→eqb (zero-mul (down e) ∙ sym (zero-times 1 n))) (eq→eqb (zero-mul (down e)))))
    (zero-num w true a c C (z tt) h)

-- ---- the bounds where v is not negative
plus-bounds : (v c : Float) → HasValue v false (P.num v) (P.den v) → P.num v ≤ P.den v → Range c → Bounds v c (weight v c)
unfolding weight
plus-bounds v c h l r =
    let a = P.num v in
    let b = P.den v in
    let m = P.num c in
    let n = P.den c in
    let w = weight v c in
    let z = series-close a b m n (P.den_pos v) (P.den_pos c) l r.small v c r.sign h r.is r.null in
    let y-pos : 0 < sum_bot v c 41 = mul-pos (P.den_pos v) (bot-pos a b m n (P.den_pos v) (P.den_pos c) l 41) in
    let few : 441 * err * 2 ^ 26 ≤ unit = omega (arith, err-le (441 * 2 ^ 26) (lit≤ tt)) in
    let g = narrow-close (series v c) z.at unit unit-pos (over z.at (sum_top v c 41) (sum_bot v c 41) unit (441 * err) y-pos z.off.up (part-le-one a b m n 41 l) few) z.is in
    let near = as-fraction g.0 z.at unit (P.num w) (P.den w) (P.value→cross w g.0 (2 ^ 149) g.1) g.2 in
    let t = a * (2 * top a b m n 41) in
    let s = sides unit z.at (P.num w) (P.den w) (sum_top v c 41) (sum_bot v c 41) (441 * err) t unit-pos near z.off few (next_small a b m n l) in
    let f = from_zero w false g.0 (2 ^ 149) (pow_pos 149) (λ t. absurd t) g.1 in
    record {
      number = f.0;
      not_negative = f.1;
      upper = λ k. P.through (sum_top v c k) (sum_top v c 41 + t) (P.num w * 2 ^ 24 + P.den w) (sum_bot v c k) (sum_bot v c 41) (P.den w * 2 ^ 24) y-pos (parts_below a b m n 41 k) s.1;
      lower = s.0;
    }
  where
    over : (Z x y L e : ℕ) → 0 < y → Z * y ≤ x * L + e * y → x ≤ y → e * 2 ^ 26 ≤ L → Z * 2 ^ 26 ≤ L * (2 ^ 26 + 1)
    over Z x y L e p h g k = le_of_mul-le-mul_right (omega (arith, mul-le-mul_right L g, mul-le-mul_right y k)) p

-- ---- and where v is -0: W is a zero
minus-bounds : (v c : Float) → HasValue v true (P.num v) (P.den v) → P.num v ≡ 0 → Range c → Bounds v c (weight v c)
unfolding weight series
minus-bounds v c h z r =
    let w = weight v c in
    let g = rest-close (P.num v) (P.den v) (P.num c) (P.den c) (P.den_pos v) (P.den_pos c) (le_trans (le_of_eq z) zero-le) r.small v c true r.sign h r.is r.null in
    let a = P.num v * g.at in
    let b = P.den v * unit in
    let q : 0 < b = mul-pos (P.den_pos v) unit-pos in
    let n : a ≡ 0 = zero-times g.at z in
    let s : HasValue (series v c) true a b = rw (mul_val v (steps 40 (v ⊗ v) (int 1 ⊖ c) (int 1)) true (P.num v) (P.den v) g.at unit (P.den_pos v) unit-pos h g.is) (zero-kept binary64 true a b q n) in
    let k : HasValue w true a b = rw (of-value (series v c) true a b q s) (zero-kept binary32 true a b q n) in
    let f = from_zero w true a b q (λ t. n) k in
    record {
      number = f.0;
      not_negative = f.1;
      upper = λ k. zero_at_most (sum_top v c k) (sum_bot v c k) (P.num w) (P.den w) (zero-times (before (P.num v) (P.den v) (P.num c) (P.den c) k) z);
      lower = zero_at_most (P.num w) (P.den w) (sum_top v c 41) (sum_bot v c 41) (zero-num w true a b q n k);
    }

by_sign : (v c : Float) (s : Bool) → HasValue v s (P.num v) (P.den v) → (T s → P.num v ≡ 0) → P.num v ≤ P.den v → Range c → Bounds v c (weight v c)
by_sign v c false h z l r = plus-bounds v c h l r
by_sign v c true h z l r = minus-bounds v c h (z tt) r

pub weight-bounds : (v c : Float) → T (le zero_f v) → T (le v one_f) → T (le zero_f c) → T (lt c one_f) → Bounds v c (weight v c)
weight-bounds v c hv kv hc kc =
    let r = range v hv kv in
    by_sign v c r.sign r.is r.null r.small (range c hc (lt-le c one_f kc))
