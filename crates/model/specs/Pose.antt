-- The pose of every node at a time: scope, "The pose". Channels are taken in list order; of several for one node and
-- property the last that gave a value stands. Definitions only.
use Rattle.std.specs.Prelude.{List, ℕ, Float, get_or, set, replicate, eqb}
use Rattle.std.proofs.Math.Option.{Option, none, some}
use Rattle.model.specs.Lists.{foldl, keep, later, or_else, and_then}
use Rattle.model.specs.Vector.{Vector, normalized}
use Rattle.model.specs.Transform.{Trs, Transform, parts, parts_of}
use Rattle.model.specs.Scene.{Property, translation, rotation, scale, morph_weights, Kind, vec3s, quats, scalars}
use Rattle.model.specs.Scene.{Track}
use Rattle.model.specs.Sampling.{sample}

pub record Pose : Type 0 where
  pub translation : Option Vector
  pub rotation : Option Vector
  pub scale : Option Vector
  pub weights : Option (List Float)

abbrev pub at_rest : Pose
at_rest = record { translation = none; rotation = none; scale = none; weights = none }

-- what a channel gives its property: nothing where the kind of its values does not fit, or a rotation has no length to
-- divide by
unfoldable pub given : Property → Kind → Vector → Option Vector
given translation vec3s v = some v
given translation quats v = none
given translation scalars v = none
given rotation vec3s v = none
given rotation quats v = normalized v
given rotation scalars v = none
given scale vec3s v = some v
given scale quats v = none
given scale scalars v = none
given morph_weights vec3s v = none
given morph_weights quats v = none
given morph_weights scalars v = some v

-- a pose in which the value of one property is replaced, if there is a new one
unfoldable pub replaced : Property → Option Vector → Pose → Pose
replaced translation v p = record {
  translation = later v p.translation;
  rotation = p.rotation;
  scale = p.scale;
  weights = p.weights;
}
replaced rotation v p = record {
  translation = p.translation;
  rotation = later v p.rotation;
  scale = p.scale;
  weights = p.weights;
}
replaced scale v p = record {
  translation = p.translation;
  rotation = p.rotation;
  scale = later v p.scale;
  weights = p.weights;
}
replaced morph_weights v p = record {
  translation = p.translation;
  rotation = p.rotation;
  scale = p.scale;
  weights = later v p.weights;
}

-- one channel's effect on the pose of its node
abbrev pub drive : Float → Pose → Track → Pose
drive time p t = replaced t.property (and_then (sample t time) (λ v. given t.property t.kind v)) p

-- one channel's effect on all poses: a target out of range changes nothing
abbrev pub drive_at : Float → List Pose → Track → List Pose
drive_at time ps t = set ps t.target (drive time (get_or ps t.target at_rest) t)

-- the poses of n nodes
unfoldable pub poses : Float → ℕ → List Track → List Pose
poses time n tracks = foldl (drive_at time) (replicate n at_rest) tracks

-- the channels aimed at a node, in order
abbrev pub tracks_of : ℕ → List Track → List Track
tracks_of i tracks = keep (λ (t : Track). eqb t.target i) tracks

-- ---- the local transform (`local_transform`)

abbrev overlaid : Pose → Trs → Transform
overlaid p b =
    parts (record {
      translation = or_else p.translation b.translation;
      rotation = or_else p.rotation b.rotation;
      scale = or_else p.scale b.scale;
    })

-- no translation, rotation or scale is posed: the base transform as it is; else its parts, a matrix being split, with
-- the posed ones in place
unfoldable pub posed_over : Pose → Option Vector → Option Vector → Option Vector → Transform → Transform
posed_over p none none none b = b
posed_over p (some t) r s b = overlaid p (parts_of b)
posed_over p none (some r) s b = overlaid p (parts_of b)
posed_over p none none (some s) b = overlaid p (parts_of b)

abbrev pub local_transform : Pose → Transform → Transform
local_transform p b = posed_over p p.translation p.rotation p.scale b
