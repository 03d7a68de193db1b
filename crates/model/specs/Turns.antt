-- What holds of the turn weights of a sampled value: scope, "The sampled value". Definitions only.
use Rattle.std.specs.Prelude.{◌≡◌, List, ◌⊎◌, ℕ, suc, T, Float, get_or}
use Rattle.std.proofs.Math.Option.{some}
use Rattle.std.specs.Float.{nan}
use Rattle.std.specs.Float.Ieee.{lt, le}
use Rattle.float.specs.F32.{◌⊖◌, ◌⊘◌, zero32, one32}
use Rattle.turn.specs.Weight.{weight}
use Rattle.turn.specs.Bounds.{Bounds}
use Rattle.model.specs.Lists.{pick}
use Rattle.model.specs.Vector.{Vector, ◌⊙◌, ◌⊞◌, negated, dot}
use Rattle.model.specs.Scene.{Track}
use Rattle.model.specs.Sampling.{key_value, shorter, cut_at_one, sample}

-- u of scope, "The sampled value": how far the time is on its way from key k to key k + 1
abbrev pub fraction : List Float → ℕ → Float → Float
fraction keys k time = (time ⊖ get_or keys k nan) ⊘ (get_or keys (suc k) nan ⊖ get_or keys k nan)

-- c of scope, "The sampled value": the cut value of two quaternions
abbrev pub cosine : Vector → Vector → Float
cosine a b = cut_at_one (shorter (dot a b))

-- the second quaternion, negated where the dot product is below zero
abbrev pub nearer : Vector → Vector → Vector
nearer a b = pick (lt (dot a b) zero32) (negated b) b

-- Scope, "The sampled value": "0 ≤ v ≤ 1 and 0 ≤ c < 1", where W(v, c) is bounded. -0 counts as 0.
pub record InDomain (v c : Float) : Type 0 where
  pub v-from : T (le zero32 v)
  pub v-to : T (le v one32)
  pub c-from : T (le zero32 c)
  pub c-below : T (lt c one32)

-- Scope, "The sampled value": within 2 ^ -24 of the exact weight, "NaN apart". W(v, c) is asked for in the domain of
-- its bounds and meets them, or it is NaN since v or c is.
pub data WithinOrNaN (v c : Float) : Type 0 where
  within : InDomain v c → Bounds v c (weight v c) → WithinOrNaN v c
  lost : (v ≡ nan) ⊎ (c ≡ nan) → weight v c ≡ nan → WithinOrNaN v c

-- Both weights of a turn by u with the cut value c.
pub record Weights (u c : Float) : Type 0 where
  pub first : WithinOrNaN (one32 ⊖ u) c
  pub second : WithinOrNaN u c

-- Scope, "The sampled value": the value between keys k and k + 1 is the two quaternions, each times its turn weight.
pub record Turned (t : Track) (k : ℕ) (time : Float) : Type 0 where
  pub value :
      let u = fraction t.keys k time in
      let c = cosine (key_value t k) (key_value t (suc k)) in
      sample t time
      ≡ some (weight (one32 ⊖ u) c ⊙ key_value t k ⊞ weight u c ⊙ nearer (key_value t k) (key_value t (suc k)))
  pub weights : Weights (fraction t.keys k time) (cosine (key_value t k) (key_value t (suc k)))
