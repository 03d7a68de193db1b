-- The sampled value at the keys, beyond them and, of a Step track, between them, and how many numbers it has.
-- Assumes nothing.
use mathlib.Core.Path.{◌≡◌, refl, sym, ap, ◌∙◌}
use mathlib.Core.Logic.{inl, inr}
use mathlib.Core.Bool.{Bool, true, false, ◌&&◌}
use mathlib.Core.List.{List, [], ◌∷◌, map, zip_with}
use mathlib.Core.Option.{none, some, none-ne-some}
use Prim.Native.Nat.{ℕ, suc, ◌+◌, ◌-◌, ◌*◌, ◌%◌, ◌≤◌, ◌<◌}
use native.Mathlib.Nat.{le_of_dvd, dvd_of_mod-eq-zero, le-div_iff_mul-le, mul-div-le, div-one, mul-le-mul_right, suc-mul, one-mul, le_trans, le_of_eq}
use native.Mathlib.Omega.{arith}
use borrow.Author.Tests.{ltb-true, eqb-true}
use lib.Dec.{ltb, eqb, lit<}
use lib.Ieee.{Float, lt, eq, le}
use lib.ListN.{length, take, drop, length-take, length-drop, length-map}
use Rattle.model.specs.Lists.{pick}
use Rattle.model.specs.Vector.{Vector}
use Rattle.model.specs.Scene.{Kind, vec3s, quats, scalars, Interpolation, step, linear, cubic_spline, Track}
use Rattle.model.specs.Sampling.{factor, centre, entries, rows, even, stride, components, row_at, key_value, in_line, Where, before, on, between, after, locate, lerp, slerp, cubic, interpolated, value_at, sample}
use Rattle.model.proofs.Tests.{both, either}
use Rattle.model.proofs.Orders.{eq-sym}
use Rattle.model.proofs.Located.{key, InRange, locate-in-range, located-unique, located-on, located-before, located-between, located_after}

module _ (t : Track) (is_even : even t ≡ true) where
  pub laid_out : (0 < length t.keys) × (0 < entries t) × (entries t % rows t ≡ 0)
  laid_out =
      let e = both (ltb 0 (length t.keys) && ltb 0 (entries t)) (eqb (entries t % rows t) 0) is_even in
      let f = both (ltb 0 (length t.keys)) (ltb 0 (entries t)) e.0 in
      (ltb-true 0 (length t.keys) f.0, ltb-true 0 (entries t) f.1, eqb-true (entries t % rows t) 0 e.1)

  -- an even track has at least one weight a frame
  pub stride-some : 0 < stride t
  stride-some =
      let l = laid_out in
      (le-div_iff_mul-le (go t.interpolation l.0)).1 (le_trans (le_of_eq (one-mul (rows t))) (le_of_dvd l.1 (dvd_of_mod-eq-zero (rows t) l.2)))
    where
      go : (i : Interpolation) → 0 < length t.keys → 0 < length t.keys * factor i
      go step h = omega arith
      go linear h = omega arith
      go cubic_spline h = omega arith

  pub sample-at : (time : Float) {w : Where} → locate t.keys time ≡ w → sample t time ≡ some (value_at t time w)
  unfolding sample
  sample-at time h = λ i. pick (is_even i) (some (value_at t time (h i))) none

  module _ (line : in_line t.keys ≡ true) where
    pub sample-on-key : (k : ℕ) → k < length t.keys → sample t (key t.keys k) ≡ some (key_value t k)
    unfolding value_at
    sample-on-key k b = sample-at (key t.keys k) (located-on t.keys line k b)

    module _ (time : Float) where
      -- a time that equals key k, as -0 equals 0
      sample-equal : (k : ℕ) → k < length t.keys → eq time (key t.keys k) ≡ true → sample t time ≡ some (key_value t k)
      unfolding value_at
      sample-equal k b h = sample-at time {w = on k} (located-unique line (record { in_range = b; holds = h }))

      pub sample-first : le time (key t.keys 0) ≡ true → sample t time ≡ some (key_value t 0)
      unfolding value_at le
      sample-first h = elim (either (lt time (key t.keys 0)) (eq time (key t.keys 0)) h) [
        | inl l ↦ sample-at time (located-before t.keys line time laid_out.0 l)
        | inr e ↦ sample-equal 0 laid_out.0 e
      ]

      pub sample-last : le (key t.keys (length t.keys - 1)) time ≡ true → sample t time ≡ some (key_value t (length t.keys - 1))
      unfolding value_at le
      sample-last h =
          let last = key t.keys (length t.keys - 1) in
          elim (either (lt last time) (eq last time) h) [
            | inl l ↦ sample-at time (located_after t.keys line time l)
            | inr e ↦ sample-equal (length t.keys - 1) (omega (arith, laid_out)) (eq-sym time last ∙ e)
          ]

      pub step-holds : t.interpolation ≡ step → (k : ℕ) → suc k < length t.keys
          → lt (key t.keys k) time ≡ true → lt time (key t.keys (suc k)) ≡ true → sample t time ≡ some (key_value t k)
      unfolding value_at interpolated
      step-holds s k b h g = sample-at time (located-between t.keys line time k b h g) ∙ (λ i. some (interpolated t (s i) k time))

-- ---- how many numbers a value has

map-width : (f : Float → Float) (v : Vector) (n : ℕ) → length v ≡ n → length (map f v) ≡ n
map-width f v n p = length-map v f ∙ p

zip-width : (f : Float → Float → Float) (v w : Vector) (n : ℕ) → length v ≡ n → length w ≡ n → length (zip_with f v w) ≡ n
unfolding zip_with
zip-width f [] w n p q = p
zip-width f (x ∷ v) [] n p q = q
zip-width f (x ∷ v) (y ∷ w) n p q = ap suc (zip-width f v w (length v) refl (omega arith)) ∙ p

pick-width : (b : Bool) (v w : Vector) (n : ℕ) → length v ≡ n → length w ≡ n → length (pick b v w) ≡ n
pick-width true v w n p q = p
pick-width false v w n p q = q

lerp-width : (u : Float) (a b : Vector) (n : ℕ) → length a ≡ n → length b ≡ n → length (lerp u a b) ≡ n
unfolding lerp
lerp-width u a b n p q = search (zip-width, map-width)

slerp-width : (u : Float) (a b : Vector) (n : ℕ) → length a ≡ n → length b ≡ n → length (slerp u a b) ≡ n
unfolding slerp
slerp-width u a b n p q = search (zip-width, map-width, pick-width, lerp-width) depth 7

cubic-width : (u d : Float) (v out v' in' : Vector) (n : ℕ) → length v ≡ n → length out ≡ n → length v' ≡ n → length in' ≡ n → length (cubic u d v out v' in') ≡ n
unfolding cubic
cubic-width u d v out v' in' n p q r s = search (zip-width, map-width)

part-width : (l : List Float) (at n : ℕ) → at + n ≤ length l → length (take n (drop at l)) ≡ n
part-width l at n h = simp (length-take, length-drop) (omega arith)

module _ (t : Track) (is_even : even t ≡ true) where
  pub rows_fit : rows t * components t ≤ length t.values
  rows_fit = go t.kind refl
    where
      enough : rows t ≤ entries t
      enough = let l = laid_out t is_even in le_of_dvd l.1 (dvd_of_mod-eq-zero (rows t) l.2)

      go : (κ : Kind) → t.kind ≡ κ → rows t * components t ≤ length t.values
      go vec3s e = rw e ((le-div_iff_mul-le (lit< tt)).0 (rw e at enough))
      go quats e = rw e ((le-div_iff_mul-le (lit< tt)).0 (rw e at enough))
      go scalars e = rw (e, div-one) (mul-div-le (length t.values) (rows t))

  row-width : (r : ℕ) → r < rows t → length (row_at t r) ≡ components t
  row-width r h = part-width t.values (r * components t) (components t) (omega (arith, rows_fit, mul-le-mul_right (components t) h, suc-mul r (components t)))

  pub key-width : (k : ℕ) → k < length t.keys → length (key_value t k) ≡ components t
  key-width k b = row-width _ (go t.interpolation)
    where
      go : (i : Interpolation) → k * factor i + centre i < length t.keys * factor i
      go step = omega arith
      go linear = omega arith
      go cubic_spline = omega arith

  module _ (time : Float) where
    between-width : (k : ℕ) → suc k < length t.keys → (i : Interpolation) → t.interpolation ≡ i → length (interpolated t i k time) ≡ components t
    unfolding interpolated
    between-width k b step e = key-width k (omega arith)
    between-width k b linear e = go t.kind refl
      where
        low : length (key_value t k) ≡ components t
        low = key-width k (omega arith)

        high : length (key_value t (suc k)) ≡ components t
        high = key-width (suc k) b

        go : (κ : Kind) → t.kind ≡ κ → length (interpolated t linear k time) ≡ components t
        go vec3s e = rw e (lerp-width _ _ _ _ (rw e at low) (rw e at high))
        go quats e = rw e (slerp-width _ _ _ _ (rw e at low) (rw e at high))
        go scalars e = rw e (lerp-width _ _ _ _ (rw e at low) (rw e at high))
    between-width k b cubic_spline e =
        let n : rows t ≡ length t.keys * 3 = ap (λ (i : Interpolation). length t.keys * factor i) e in
        cubic-width _ _ _ _ _ _ _
        (row-width (k * 3 + 1) (omega arith)) (row-width (k * 3 + 2) (omega arith)) (row-width (suc k * 3 + 1) (omega arith)) (row-width (suc k * 3) (omega arith))

    pub value-width : (w : Where) → InRange (length t.keys) w → length (value_at t time w) ≡ components t
    unfolding value_at
    value-width before b = key-width 0 b
    value-width (on k) b = key-width k b
    value-width (between k) b = between-width k b t.interpolation refl
    value-width after b = key-width (length t.keys - 1) (omega (arith, laid_out t is_even))

pub sample-width : (t : Track) (time : Float) (v : Vector) → sample t time ≡ some v → length v ≡ components t
unfolding sample
sample-width t time v h = go (even t) refl h
  where
    go : (c : Bool) → even t ≡ c → pick c (some (value_at t time (locate t.keys time))) none ≡ some v → length v ≡ components t
    go true e h =
        let q : value_at t time (locate t.keys time) ≡ v = cc in
        ap length (sym q) ∙ value-width t e time (locate t.keys time) (locate-in-range t.keys time)
    go false e h = absurd (none-ne-some v h)
