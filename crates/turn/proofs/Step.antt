-- One step of the f64 series is near the exact step, and so are forty. Assumes nothing.
use mathlib.Core.Path.{refl, sym}
use Prim.Native.Nat.{ℕ, zero, suc, ◌+◌, ◌-◌, ◌*◌, ◌≤◌, ◌<◌}
use native.Mathlib.Nat.{add-mul, le_trans, le_of_eq, le_of_lt, lt_of_le_of_lt, sub-le, sub-add_cancel, mul-pos, mul_assoc, one-mul, mul-le-mul, mul-le-mul_left, mul-le-mul_right, zero-lt-suc}
use native.Mathlib.Omega.{arith}
use mathlib.Core.Bool.{false}
use lib.Dec.{lit≤, lit<}
use lib.Ieee.{Float, of_int}
use lib.Ieee.Exact.{HasValue}
use Rattle.float.specs.F64.{◌⊖◌, ◌⊗◌, ◌⊘◌}
use Rattle.turn.specs.Weight.{int, step, steps}
use Rattle.turn.specs.Bounds.{num, den, top, bot, before}
use Rattle.turn.proofs.Close.{unit, err, err-le, Close, close_more, close-as, close-bound, close-mul, close-div, close-sub, close-one-plus}
use Rattle.turn.proofs.Exact.{horner, ratio-half}

-- ---- the step's whole numbers: i * i and i * (2 * i + 1)
square_le : (i : ℕ) → i ≤ 40 → i * i ≤ 1600
square_le i h = mul-le-mul h h

den-le : (i : ℕ) → i ≤ 40 → i * (2 * i + 1) ≤ 3240
den-le i h = omega (arith, mul-le-mul h h)

odd_pos : (i : ℕ) → 0 < 2 * i + 1
odd_pos i = omega arith

-- ---- errors: all are far below 1, and the quotient by i * (2 * i + 1) brings (5 + i * i) * err down to 3 * err
room-err : (i E : ℕ) → 1 ≤ i → (E + E) * 2 + i * i * E + E + E * (i * (2 * i + 1)) ≤ 3 * E * (i * (2 * i + 1))
room-err i E h = omega (arith, mul-le-mul_right E h, mul-le-mul_right (i * E) h)

product-err : (w E L : ℕ) → w ≤ 1600 → 1605 * E ≤ L → (E + E) * 2 + w * E + E ≤ L
product-err w E L h g = omega (arith, mul-le-mul_right E h)

-- ---- 1 is k / k, exactly
one-is : HasValue (int 1) false unit unit
unfolding unit of_int
one-is = (refl, refl)

one-close : (k : ℕ) → Close (int 1) k k 0
one-close k = record { at = unit; is = one-is; off = omega arith }

module _ (a b m n : ℕ) (B : 0 < b) (N : 0 < n) (ab : a ≤ b) where
  den_pos : (i : ℕ) → 1 ≤ i → 0 < den a b m n i
  unfolding den
  den_pos i h = mul-pos (mul-pos (mul-pos B B) N) (mul-pos h (odd_pos i))

  squares : (i : ℕ) → 1 ≤ i → a * a ≤ i * i * (b * b)
  squares i h = le_trans (mul-le-mul ab ab) (le_trans (le_of_eq (sym (one-mul (b * b)))) (mul-le-mul_right (b * b) (mul-le-mul h h)))

  ratio-one : (i : ℕ) → num a b m n i ≤ 1 * den a b m n i
  ratio-one i = omega (arith, ratio-half a b m n i)

  rest-one : (i gn gd : ℕ) → gn ≤ 2 * gd → num a b m n i * gn ≤ 1 * (den a b m n i * gd)
  rest-one i gn gd h = omega (arith, mul-le-mul_left (num a b m n i) h, mul-le-mul_right gd (ratio-half a b m n i))

  -- the quotient (i * i - v * v) * (1 - c) / (i * (2 * i + 1))
  ratio-close : (i : ℕ) → 1 ≤ i → i ≤ 40 → {vv d : Float} (p : Close vv (a * a) (b * b) err) → p.at ≤ unit → (q : Close d (n - m) n err)
      → Close ((int (i * i) ⊖ vv) ⊗ d ⊘ int (i * (2 * i + 1))) (num a b m n i) (den a b m n i) (3 * err)
  unfolding num den
  ratio-close i low high p pu q =
      let W : i * i ≤ 1600 = square_le i high in
      let s = close-sub (i * i) (i * i * (b * b) - a * a) (le_trans W (lit≤ tt)) p (le_trans pu (le_trans (le_of_eq (sym (one-mul unit))) (mul-le-mul_right unit (mul-le-mul low low)))) (sub-add_cancel (squares i low)) in
      let s-le : i * i * (b * b) - a * a ≤ i * i * (b * b) = sub-le (i * i * (b * b)) (a * a) in
      let s-few : i * i * (b * b) - a * a ≤ 1600 * (b * b) = le_trans s-le (mul-le-mul_right (b * b) W) in
      let sb : s.at ≤ 1601 * unit = close-bound 1600 s (mul-pos B B) s-few (omega (arith, err-le 2 (lit≤ tt))) in
      let qb : q.at ≤ 2 * unit = close-bound 1 q N (le_trans (sub-le n m) (le_of_eq (sym (one-mul n)))) (omega (arith, err-le 2 (lit≤ tt))) in
      let r = close-mul (i * i) 1601 2 s q s-le sb qb (lit≤ tt) in
      let r-few : (i * i * (b * b) - a * a) * (n - m) ≤ 1600 * (b * b * n) = le_trans (mul-le-mul s-few (sub-le n m)) (le_of_eq (mul_assoc 1600 (b * b) n)) in
      let rb : r.at ≤ 1601 * unit = close-bound 1600 r (mul-pos (mul-pos B B) N) r-few (product-err (i * i) err unit W (err-le 1605 (lit≤ tt))) in
      close-div (i * (2 * i + 1)) 1601 (3 * err) (mul-pos low (odd_pos i)) (lt_of_le_of_lt (den-le i high) (lit< tt)) r rb (lit≤ tt) (room-err i err low)

  step-close : (i : ℕ) → 1 ≤ i → i ≤ 40 → {vv d g : Float} {gn gd e : ℕ} (p : Close vv (a * a) (b * b) err) → p.at ≤ unit → (q : Close d (n - m) n err) → (r : Close g gn gd e)
      → 0 < gd → gn ≤ 2 * gd → e + 11 * err ≤ unit
      → Close (step i vv d g) (den a b m n i * gd + num a b m n i * gn) (den a b m n i * gd) (e + 11 * err)
  unfolding step
  step-close i low high {vv} {d} {g} {gn} {gd} {e} p pu q r G small room =
      let t = ratio-close i low high p pu q in
      let tb : t.at ≤ 2 * unit = close-bound 1 t (den_pos i low) (ratio-one i) (err-le 3 (lit≤ tt)) in
      let gb : r.at ≤ 3 * unit = close-bound 2 r G small (omega arith) in
      let h = close-mul 1 2 3 t r (ratio-one i) tb gb (lit≤ tt) in
      let hb : h.at ≤ 2 * unit = close-bound 1 h (mul-pos (den_pos i low) G) (rest-one i gn gd small) (omega arith) in
      close_more (e + 11 * err) (close-one-plus 2 h hb (lit≤ tt)) (omega arith)

  -- the steps k, k - 1, .., 1
  steps-close : (k : ℕ) → k ≤ 40 → {vv d g : Float} {gn gd e : ℕ} (p : Close vv (a * a) (b * b) err) → p.at ≤ unit → (q : Close d (n - m) n err) → (r : Close g gn gd e)
      → 0 < gd → gn ≤ 2 * gd → e + k * (11 * err) ≤ unit
      → Close (steps k vv d g) (before a b m n k * gd + top a b m n k * gn) (bot a b m n k * gd) (e + k * (11 * err))
  unfolding steps before top bot
  steps-close zero high {vv} {d} {g} {gn} {gd} {e} p pu q r G small room = close-as (0 * gd + 1 * gn) (1 * gd) (e + 0 * (11 * err)) r (omega arith) (omega arith) (omega arith)
  steps-close (suc k) high {vv} {d} {g} {gn} {gd} {e} p pu q r G small room =
      close-as ((before a b m n k + top a b m n k) * den a b m n (suc k) * gd + top a b m n k * num a b m n (suc k) * gn) (bot a b m n k * den a b m n (suc k) * gd) (e + suc k * (11 * err))
      (steps-close k (le_of_lt high) p pu q (step-close (suc k) (zero-lt-suc k) high p pu q r G small (omega arith)) (mul-pos (den_pos (suc k) (zero-lt-suc k)) G)
      (omega (arith, rest-one (suc k) gn gd small)) (omega arith))
      (sym (horner (before a b m n k) (top a b m n k) (den a b m n (suc k)) gd (num a b m n (suc k)) gn))
      (sym (mul_assoc (bot a b m n k) (den a b m n (suc k)) gd))
      (omega arith)

  -- the same from 1 on, as the sum of the first k + 1 terms; 1 is taken as den (k + 1) / den (k + 1)
  pub sum-close : (k : ℕ) → k ≤ 40 → {vv d : Float} (p : Close vv (a * a) (b * b) err) → p.at ≤ unit → Close d (n - m) n err
      → Close (steps k vv d (int 1)) (before a b m n (suc k)) (bot a b m n (suc k)) (440 * err)
  unfolding before bot
  sum-close k high p pu q =
      let D = den a b m n (suc k) in
      let few : k * (11 * err) ≤ 440 * err = omega (arith, mul-le-mul_right (11 * err) high) in
      close-as ((before a b m n k + top a b m n k) * D) (bot a b m n k * D) (440 * err)
      (steps-close k high p pu q (one-close D) (den_pos (suc k) (zero-lt-suc k)) (omega arith) (omega (arith, err-le 440 (lit≤ tt))))
      (sym (add-mul (before a b m n k) (top a b m n k) D)) refl (omega arith)

  pub bot-pos : (k : ℕ) → 0 < bot a b m n k
  unfolding bot
  bot-pos zero = zero-lt-suc 0
  bot-pos (suc k) = mul-pos (bot-pos k) (den_pos (suc k) (zero-lt-suc k))
