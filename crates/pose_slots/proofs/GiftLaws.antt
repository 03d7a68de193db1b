-- What a channel gives, by its property, its kind and its sampled value. Assumes nothing.
use mathlib.Core.Path.{◌≡◌, refl, sym, ap, ◌∙◌}
use mathlib.Core.Option.{Option, none, some}
use Rattle.std.specs.Prelude as rust
use Rattle.model.specs.Lists.{is_some, and_then}
use Rattle.model.specs.Vector.{Vector, normalized}
use Rattle.model.specs.Scene.{Property, translation, rotation, scale, morph_weights, Kind, vec3s, quats, scalars}
use Rattle.model.specs.Pose.{Pose, at_rest, given, replaced}
use Rattle.scene.specs.declared.Vec3.{Vec3}
use Rattle.scene.specs.declared.Quat.{Quat}
use Rattle.scene.specs.Values.{vec3, quat}
use Rattle.pose_slots.specs.declared.NodePose.{NodePose}
use Rattle.pose_slots.specs.declared.Gift.{Gift}
use Rattle.pose_slots.specs.declared.Gift.TheVariants as gift
use Rattle.pose_slots.specs.Slots.{pose_of}
use Rattle.pose_slots.specs.Gifts.{bare, received, with_gift, Gives}

-- a gift in a pose as the code holds it
pub gift-pose : (g : rust.Option Gift) (p : NodePose) → pose_of (with_gift g p) ≡ received g (pose_of p)
gift-pose (rust.Some (gift.Translation v)) p = refl
gift-pose (rust.Some (gift.Rotation q)) p = refl
gift-pose (rust.Some (gift.Scale v)) p = refl
gift-pose (rust.Some gift.Weights) p = refl
gift-pose rust.None p = refl

-- a channel with no value changes nothing
unposed : (q : Property) (p : Pose) → replaced q none p ≡ p
unfolding replaced
unposed translation p = refl
unposed rotation p = refl
unposed scale p = refl
unposed morph_weights p = refl

pub no-gift : (q : Property) (k : Kind) (v : Option Vector) → and_then v (given q k) ≡ none → Gives rust.None q k v
no-gift q k v e =
    let same : (p : Pose) → replaced q (and_then v (given q k)) p ≡ p = λ p. ap (λ (o : Option Vector). replaced q o p) e ∙ unposed q p in
    record { pose = λ p. ap bare (same p); weights = ap (λ (p : Pose). is_some p.weights) (same at_rest) }

pub translated : (v : Vec3) → Gives (rust.Some (gift.Translation v)) translation vec3s (some (vec3 v))
unfolding given replaced
translated v = record { pose = λ p. refl; weights = refl }

pub scaled : (v : Vec3) → Gives (rust.Some (gift.Scale v)) scale vec3s (some (vec3 v))
unfolding given replaced
scaled v = record { pose = λ p. refl; weights = refl }

pub weighted : (v : Vector) → Gives (rust.Some gift.Weights) morph_weights scalars (some v)
unfolding given replaced
weighted v = record { pose = λ p. refl; weights = refl }

module _ (q : Quat) where
  pub rotated : (r : Quat) → some (quat r) ≡ normalized (quat q) → Gives (rust.Some (gift.Rotation r)) rotation quats (some (quat q))
  unfolding given replaced
  rotated r e = record { pose = λ p. ap (λ (o : Option Vector). bare (replaced rotation o p)) (sym e); weights = refl }

  pub not-rotated : none ≡ normalized (quat q) → Gives rust.None rotation quats (some (quat q))
  unfolding given
  not-rotated e = no-gift rotation quats (some (quat q)) (sym e)
