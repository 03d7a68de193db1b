-- What one channel gives the pose of its node. Definitions only.
use Rattle.std.specs.Prelude as rust
use Rattle.std.specs.Prelude.{◌≡◌, Bool, true, false}
use Rattle.std.proofs.Math.Option.{Option, none, some}
use Rattle.model.specs.Lists.{is_some, and_then}
use Rattle.model.specs.Vector.{Vector}
use Rattle.model.specs.Scene.{Property, Kind}
use Rattle.model.specs.Pose.{Pose, at_rest, given, replaced}
use Rattle.scene.specs.Values.{vec3, quat}
use Rattle.pose_slots.specs.declared.NodePose.{NodePose}
use Rattle.pose_slots.specs.declared.Gift.{Gift}
use Rattle.pose_slots.specs.declared.Gift.TheVariants as gift

-- a pose without its weights, as slots hold it
abbrev pub bare : Pose → Pose
bare p = record { translation = p.translation; rotation = p.rotation; scale = p.scale; weights = none }

abbrev pub received : rust.Option Gift → Pose → Pose
received (rust.Some (gift.Translation v)) p = record {
  translation = some (vec3 v);
  rotation = p.rotation;
  scale = p.scale;
  weights = p.weights;
}
received (rust.Some (gift.Rotation q)) p = record {
  translation = p.translation;
  rotation = some (quat q);
  scale = p.scale;
  weights = p.weights;
}
received (rust.Some (gift.Scale v)) p = record {
  translation = p.translation;
  rotation = p.rotation;
  scale = some (vec3 v);
  weights = p.weights;
}
received (rust.Some gift.Weights) p = p
received rust.None p = p

-- the same of the pose as the code holds it: the value is put in place, and the rest is as it was
abbrev pub with_gift : rust.Option Gift → NodePose → NodePose
with_gift (rust.Some (gift.Translation v)) p =
    record { translation = rust.Some v; rotation = p.rotation; scale = p.scale }
with_gift (rust.Some (gift.Rotation q)) p =
    record { translation = p.translation; rotation = rust.Some q; scale = p.scale }
with_gift (rust.Some (gift.Scale v)) p =
    record { translation = p.translation; rotation = p.rotation; scale = rust.Some v }
with_gift (rust.Some gift.Weights) p = p
with_gift rust.None p = p

abbrev pub brings_weights : rust.Option Gift → Bool
brings_weights (rust.Some (gift.Translation v)) = false
brings_weights (rust.Some (gift.Rotation q)) = false
brings_weights (rust.Some (gift.Scale v)) = false
brings_weights (rust.Some gift.Weights) = true
brings_weights rust.None = false

-- the effect of a channel by its property, its kind and its sampled value
pub record Gives (g : rust.Option Gift) (q : Property) (k : Kind) (v : Option Vector) : Type 0 where
  pub pose : (p : Pose) → bare (replaced q (and_then v (given q k)) p) ≡ received g (bare p)
  pub weights : is_some (replaced q (and_then v (given q k)) at_rest).weights ≡ brings_weights g
