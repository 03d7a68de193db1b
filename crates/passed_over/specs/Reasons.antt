-- Why a channel gives its node nothing at a time, and is passed over: scope, "The pose". Definitions only.
use Rattle.std.specs.Prelude.{Bool, true, false, not, ℕ, leb, Float}
use Rattle.std.proofs.Math.Option.{Option}
use Rattle.model.specs.Lists.{pick, is_some, and_then}
use Rattle.model.specs.Vector.{Vector}
use Rattle.model.specs.Scene.{Property, translation, rotation, scale, morph_weights, Kind, vec3s, quats, scalars, Track}
use Rattle.model.specs.Sampling.{even, sample}
use Rattle.model.specs.Pose.{given}

pub data Reason : Type 0 where
  -- the target is past the last node
  no_node : Reason
  -- the layout is not even
  uneven_layout : Reason
  -- the kind of the values does not fit the property
  unfit_kind : Reason
  -- a rotation's length is 0 or not finite
  no_length : Reason

abbrev pub code : Reason → ℕ
code no_node = 1
code uneven_layout = 2
code unfit_kind = 3
code no_length = 4

-- whether a property takes values of a kind
abbrev pub fits : Property → Kind → Bool
fits translation vec3s = true
fits translation quats = false
fits translation scalars = false
fits rotation vec3s = false
fits rotation quats = true
fits rotation scalars = false
fits scale vec3s = true
fits scale quats = false
fits scale scalars = false
fits morph_weights vec3s = false
fits morph_weights quats = false
fits morph_weights scalars = true

-- what a channel gives its node at a time
abbrev pub value_given : Float → Track → Option Vector
value_given time t = and_then (sample t time) (λ v. given t.property t.kind v)

-- why a channel gives none of n nodes anything at a time: the first reason that applies, or 0
unfoldable pub reason_for : Float → ℕ → Track → ℕ
reason_for time n t =
    pick (leb n t.target) (code no_node)
    (pick (not (even t)) (code uneven_layout)
    (pick (not (fits t.property t.kind)) (code unfit_kind)
    (pick (not (is_some (value_given time t))) (code no_length) 0)))
