-- The f64 series is near the exact one, at v and c from 0 to 1, zeros of either sign included. Assumes nothing.
use mathlib.Core.Path.{◌≡◌, refl, sym, subst}
use Prim.Native.Nat.{ℕ, ◌-◌, ◌*◌, ◌≤◌, ◌<◌}
use native.Mathlib.Nat.{add-zero, sub-zero, le_refl, mul-pos, mul-one, one-mul, mul-le-mul, zero-lt-suc}
use native.Mathlib.Omega.{arith}
use mathlib.Core.Bool.{Bool, true, false}
use lib.Dec.{T, lit≤, lit<}
use lib.Ieee.{Float, binary64, fin, round, sub, of_int, le}
use lib.Ieee.Exact.{HasValue}
use lib.Ieee.Order.{round_mono}
use Rattle.float.specs.F64.{◌⊖◌, ◌⊗◌}
use Rattle.turn.specs.Weight.{int, steps, series}
use Rattle.turn.specs.Bounds.{bot, before}
use Rattle.turn.proofs.Values.{apart, add-val, sub_val, square-val, int-val, values_of_le}
use Rattle.turn.proofs.Close.{unit, err, err-le, Close, close-round, close_more, close-bound, close-product}
use Rattle.turn.proofs.Exact.{sum-two}
use Rattle.turn.proofs.Step.{sum-close, bot-pos}

module _ (a b m n : ℕ) (B : 0 < b) (N : 0 < n) (ab : a ≤ b) (mn : m ≤ n) where
  -- v * v is at most 1, so that no i * i - v * v is negative
  square-close : (v : Float) (s : Bool) → HasValue v s a b → (p : Close (v ⊗ v) (a * a) (b * b) err) × (p.at ≤ unit)
  unfolding of_int
  square-close v s h =
      let is : v ⊗ v ≡ round binary64 false (a * a) (b * b) = square-val v s a b B h in
      let l : a * a ≤ b * b = mul-le-mul ab ab in
      let p = close-round (a * a) (b * b) (mul-pos B B) (omega arith) is in
      let below : T (le (v ⊗ v) (int 1)) = subst (λ (z : Float). T (le z (int 1))) (sym is) (round_mono binary64 (a * a) (b * b) 1 1 (mul-pos B B) (zero-lt-suc 0) (omega arith)) in
      (p, omega (arith, values_of_le (v ⊗ v) (int 1) p.at unit 1 1 p.is (int-val 1 (lit< tt)) below))

  -- 1 - c; where c is a zero with the sign set, that is 1 + 0
  less-is : (s : Bool) (c : Float) → HasValue c s m n → (T s → m ≡ 0) → int 1 ⊖ c ≡ round binary64 false (n - m) n
  unfolding sub
  less-is false c h z = simp (one-mul, mul-one) at (sub_val (int 1) c 1 1 m n (zero-lt-suc 0) N (int-val 1 (lit< tt)) h (omega arith))
  less-is true c h z =
      apart (λ c. int 1 ⊖ c ≡ round binary64 false (n - m) n) c true m n h λ p e k.
      simp (z tt, sub-zero) (simp (one-mul, mul-one, z tt, add-zero) at (add-val (int 1) (fin false p e) 1 1 m n (zero-lt-suc 0) N (int-val 1 (lit< tt)) (refl, k)))

  less-close : (s : Bool) (c : Float) → HasValue c s m n → (T s → m ≡ 0) → Close (int 1 ⊖ c) (n - m) n err
  less-close s c h z = close-round (n - m) n N (omega arith) (less-is s c h z)

  -- what is multiplied by v
  pub rest-close : (v c : Float) (s t : Bool) → HasValue v s a b → HasValue c t m n → (T t → m ≡ 0) → Close (steps 40 (v ⊗ v) (int 1 ⊖ c) (int 1)) (before a b m n 41) (bot a b m n 41) (440 * err)
  rest-close v c s t hv hc z =
      let p = square-close v s hv in
      sum-close a b m n B N ab 40 (le_refl 40) p.0 p.1 (less-close t c hc z)

  pub series-close : (v c : Float) (t : Bool) → HasValue v false a b → HasValue c t m n → (T t → m ≡ 0) → Close (series v c) (a * before a b m n 41) (b * bot a b m n 41) (441 * err)
  unfolding series
  series-close v c t hv hc z =
      let g = rest-close v c false t hv hc z in
      let l : g.at ≤ 3 * unit = close-bound 2 g (bot-pos a b m n B N ab 41) (sum-two a b m n 41) (err-le 440 (lit≤ tt)) in
      close_more (441 * err) (close-product v a b 0 a b 1 0 B hv (omega arith) g (omega arith) (omega arith) (omega (arith, mul-le-mul ab l))) (omega arith)
