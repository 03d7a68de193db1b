-- The turn weights of a sampled value are asked for only where their bounds hold, NaN apart. Assumes nothing.
use mathlib.Core.Path.{◌≡◌, refl, ap, ◌∙◌, subst}
use mathlib.Core.Logic.{◌⊎◌, inl, inr}
use mathlib.Core.Bool.{Bool, true, false, ◌||◌, false≢true}
use mathlib.Core.List.{List}
use mathlib.Core.Option.{some}
use Prim.Native.Nat.{ℕ, suc, ◌*◌, ◌<◌}
use native.Mathlib.Omega.{arith}
use borrow.Author.Tests.{ltb-true}
use lib.Dec.{T}
use lib.Ieee.{Float, nan, inf, fin, binary32, up, down, neg, sub, lt, le, eq, is_nan, of_bits}
use lib.ListN.{length}
use Rattle.float.specs.F32.{◌⊖◌, zero32, one32}
use Rattle.turn.specs.Weight.{weight, zero_f, one_f}
use Rattle.turn.proofs.Turn.{weight-nan-v, weight-nan-c, weight-bounds}
use Rattle.model.specs.Lists.{pick}
use Rattle.model.specs.Vector.{Vector, ◌⊙◌, ◌⊞◌, dot}
use Rattle.model.specs.Scene.{quats, linear, Track}
use Rattle.model.specs.Sampling.{even, key_value, in_line, between, locate, shorter, cut_at_one, slerp, straight, interpolated, value_at}
use Rattle.model.specs.Turns.{fraction, cosine, nearer, WithinOrNaN, within, lost, Weights, Turned}
use Rattle.model.proofs.Orders.{le_of_not_lt, between-finite}
use Rattle.model.proofs.Located.{key, InRange, Holds, locate-in-range, located, key-finite, between-number}
use Rattle.model.proofs.Sampled.{sample-at}
use Rattle.model.proofs.Differences.{number, from_zero, ZeroToOne, one_less, ratio-in-range}

-- ---- c

pub record Cosine (c : Float) : Type 0 where
  pub low : T (le zero32 c)
  pub high : T (le c one32)
  pub below : eq c one32 ≡ false → T (lt c one32)

-- what is below 0, negated
neg-from-zero : (d : Float) → lt d zero_f ≡ true → T (le zero_f (neg d))
unfolding lt le neg
neg-from-zero nan h = absurd (false≢true h)
neg-from-zero (inf true) h = tt
neg-from-zero (inf false) h = absurd (false≢true h)
neg-from-zero (fin true m e) h = from_zero (number m e)
neg-from-zero (fin false m e) h = absurd (omega (arith, ltb-true (m * up e * 1) (0 * down e) h))

shorter-from-zero : (d : Float) → is_nan d ≡ false → T (le zero_f (shorter d))
unfolding of_bits is_nan
shorter-from-zero d n = go (lt d zero_f) refl
  where
    go : (b : Bool) → lt d zero_f ≡ b → T (le zero_f (pick b (neg d) d))
    go true h = neg-from-zero d h
    go false h = le_of_not_lt d zero_f n refl h

-- what is at least something is no NaN
le-number : (x y : Float) → T (le x y) → is_nan y ≡ false
unfolding le is_nan
le-number nan nan h = absurd h
le-number (inf s) nan h = absurd h
le-number (fin s m e) nan h = absurd h
le-number x (inf s) h = refl
le-number x (fin s m e) h = refl

cut-in-range : (x : Float) → T (le zero_f x) → T (le zero_f (cut_at_one x)) × T (le (cut_at_one x) one_f)
unfolding of_bits is_nan
cut-in-range x h = go (lt one_f x) refl
  where
    go : (b : Bool) → lt one_f x ≡ b → T (le zero_f (pick b one_f x)) × T (le (pick b one_f x) one_f)
    go true l = unfold le in (tt, tt)
    go false l = (h, le_of_not_lt one_f x refl (le-number zero_f x h) l)

-- at most y, and not equal to it
le-lt : (x y : Float) → T (le x y) → eq x y ≡ false → T (lt x y)
unfolding le
le-lt x y h e = go (lt x y) (rw e at h)
  where
    go : (b : Bool) → T (b || false) → T b
    go true t = tt
    go false t = t

cosine-number : (d : Float) → is_nan d ≡ false → Cosine (cut_at_one (shorter d))
unfolding of_bits
cosine-number d n =
    let r = cut-in-range (shorter d) (shorter-from-zero d n) in
    record { low = r.0; high = r.1; below = le-lt _ one32 r.1 }

pub turn-cosine : (d : Float) → (cut_at_one (shorter d) ≡ nan) ⊎ Cosine (cut_at_one (shorter d))
unfolding lt is_nan of_bits
turn-cosine nan = inl refl
turn-cosine (inf s) = inr (cosine-number (inf s) refl)
turn-cosine (fin s m e) = inr (cosine-number (fin s m e) refl)

-- ---- u and 1 - u

pub between-fraction : (keys : List Float) → in_line keys ≡ true → (time : Float) (k : ℕ) → locate keys time ≡ between k
    → (fraction keys k time ≡ nan) ⊎ ZeroToOne (fraction keys k time)
between-fraction keys line time k at =
    let h : Holds keys time (between k) = subst (Holds keys time) at (located keys time (between-number keys time k at) line).holds in
    let b : suc k < length keys = subst (InRange (length keys)) at (locate-in-range keys time) in
    ratio-in-range binary32 (key keys k) time (key keys (suc k))
    (key-finite keys line k (omega arith)) (between-finite (key keys k) time (key keys (suc k)) h.0 h.1) (key-finite keys line (suc k) b) h.0 h.1

pub rest-fraction : (u : Float) → (u ≡ nan) ⊎ ZeroToOne u → (one32 ⊖ u ≡ nan) ⊎ ZeroToOne (one32 ⊖ u)
unfolding sub of_bits
rest-fraction u (inl n) = inl (ap (λ x. one_f ⊖ x) n)
rest-fraction u (inr p) = inr (one_less binary32 p)

-- ---- the weights

within-or-nan : (v d : Float) → (v ≡ nan) ⊎ ZeroToOne v → eq (cut_at_one (shorter d)) one32 ≡ false → WithinOrNaN v (cut_at_one (shorter d))
unfolding of_bits
within-or-nan v d p e = go p (turn-cosine d)
  where
    c : Float
    c = cut_at_one (shorter d)

    go : (v ≡ nan) ⊎ ZeroToOne v → (c ≡ nan) ⊎ Cosine c → WithinOrNaN v c
    go (inl n) q = lost (inl n) (ap (λ x. weight x c) n ∙ weight-nan-v c)
    go (inr p) (inl n) = lost (inr n) (ap (weight v) n ∙ weight-nan-c v)
    go (inr p) (inr q) =
        within (record { v-from = p.low; v-to = p.high; c-from = q.low; c-below = q.below e }) (weight-bounds v c p.low p.high q.low (q.below e))

-- between two keys in line, whatever the quaternions
pub turn-weights : (keys : List Float) → in_line keys ≡ true → (time : Float) (k : ℕ) → locate keys time ≡ between k
    → (a b : Vector) → eq (cosine a b) one32 ≡ false → Weights (fraction keys k time) (cosine a b)
turn-weights keys line time k at a b e =
    let u = between-fraction keys line time k at in
    record { first = within-or-nan _ (dot a b) (rest-fraction _ u) e; second = within-or-nan _ (dot a b) u e }

slerp-turned : (u : Float) (a b : Vector) → eq (cosine a b) one32 ≡ false → slerp u a b ≡ weight (one32 ⊖ u) (cosine a b) ⊙ a ⊞ weight u (cosine a b) ⊙ nearer a b
unfolding slerp
slerp-turned u a b h = rw h

-- every sampled turn: a Linear Quat track at a time between two keys whose cut value is not 1
pub turned : (t : Track) → even t ≡ true → in_line t.keys ≡ true → t.kind ≡ quats → t.interpolation ≡ linear
    → (time : Float) (k : ℕ) → locate t.keys time ≡ between k → eq (cosine (key_value t k) (key_value t (suc k))) one32 ≡ false → Turned t k time
unfolding value_at interpolated
turned t is_even line q l time k at e =
    let u = fraction t.keys k time in
    let a = key_value t k in
    let b = key_value t (suc k) in
    record {
      value = sample-at t is_even time at ∙ (λ i. some (interpolated t (l i) k time)) ∙ (λ i. some (straight (q i) u a b)) ∙ ap some (slerp-turned u a b e);
      weights = turn-weights t.keys line time k at a b e;
    }
