-- The local transform where something is posed, and where nothing is. Assumes nothing.
use mathlib.Core.Path.{◌≡◌, refl, sym}
use mathlib.Core.Bool.{true, false, ◌||◌, false≢true}
use Rattle.std.proofs.Common.{Option, Some, None, is_some}
use Rattle.std.specs.Option.{unwrap_or}
use Rattle.model.specs.Lists.{or_else}
use Rattle.model.specs.Vector.{Vector}
use Rattle.model.specs.Transform.{Trs, Transform, parts, parts_of}
use Rattle.model.specs.Pose.{Pose, posed_over, local_transform}
use Rattle.scene.specs.declared.Vec3.{Vec3}
use Rattle.scene.specs.declared.Quat.{Quat}
use Rattle.scene.specs.Values.{vec3, quat}
use Rattle.pose_slots.specs.declared.NodePose.{NodePose}
use Rattle.pose_slots.specs.Slots.{posed, pose_of}

-- a posed value, or else another
pub or-other : {A : Type 0} (f : A → Vector) (o : Option A) (x : A) → f (unwrap_or o x) ≡ or_else (posed f o) (f x)
or-other f (Some y) x = refl
or-other f None x = refl

abbrev pub overlaid : Pose → Trs → Transform
overlaid p q = parts (record { translation = or_else p.translation q.translation; rotation = or_else p.rotation q.rotation; scale = or_else p.scale q.scale })

module _ (p : NodePose) (base : Transform) where
  pub some-posed : ((is_some p.translation || is_some p.rotation) || is_some p.scale) ≡ true
      → overlaid (pose_of p) (parts_of base) ≡ local_transform (pose_of p) base
  unfolding posed_over
  some-posed h = sym (go p.translation p.rotation p.scale h)
    where
      go : (t : Option Vec3) (r : Option Quat) (s : Option Vec3) → ((is_some t || is_some r) || is_some s) ≡ true
          → posed_over (pose_of p) (posed vec3 t) (posed quat r) (posed vec3 s) base ≡ overlaid (pose_of p) (parts_of base)
      go (Some t) r s h = refl
      go None (Some r) s h = refl
      go None None (Some s) h = refl
      go None None None h = absurd (false≢true h)

  pub none-posed : ((is_some p.translation || is_some p.rotation) || is_some p.scale) ≡ false
      → base ≡ local_transform (pose_of p) base
  unfolding posed_over
  none-posed h = go p.translation p.rotation p.scale h
    where
      go : (t : Option Vec3) (r : Option Quat) (s : Option Vec3) → ((is_some t || is_some r) || is_some s) ≡ false
          → base ≡ posed_over (pose_of p) (posed vec3 t) (posed quat r) (posed vec3 s) base
      go None None None h = refl
      go (Some t) r s h = absurd (false≢true (sym h))
      go None (Some r) s h = absurd (false≢true (sym h))
      go None None (Some s) h = absurd (false≢true (sym h))
