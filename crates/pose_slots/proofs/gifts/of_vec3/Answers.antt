use mathlib.Core.Path.{refl, sym, subst}
use mathlib.Core.Option.{some}
use Rattle.std.proofs.Common.{Some}
use Rattle.model.specs.Scene.{rotation, morph_weights, vec3s}
use Rattle.model.specs.Pose.{given}
use Rattle.scene.specs.Values.{vec3}
use Rattle.tables.specs.declared.Property.{Property}
use Rattle.tables.specs.Tags.{property_of}
use Rattle.pose_slots.specs.declared.Gift.TheVariants as gift
use Rattle.pose_slots.specs.Gifts.{Gives}
use Rattle.pose_slots.proofs.GiftLaws.{no-gift, translated, scaled}
use Rattle.pose_slots.proofs.gifts.of_vec3.Goals as goal

pub returns-in-Translation : goal.returns-in-Translation
unfolding given
returns-in-Translation c = subst (λ (x : Property). Gives (Some (gift.Translation c.args.v)) (property_of x) vec3s (some (vec3 c.args.v))) (sym c.in-Translation.is) (translated c.args.v)

pub returns-in-Rotation : goal.returns-in-Rotation
unfolding given
returns-in-Rotation c = subst (λ (x : Property). Gives _ (property_of x) vec3s (some (vec3 c.args.v))) (sym c.in-Rotation.is) (no-gift rotation vec3s (some (vec3 c.args.v)) refl)

pub returns-in-Scale : goal.returns-in-Scale
unfolding given
returns-in-Scale c = subst (λ (x : Property). Gives (Some (gift.Scale c.args.v)) (property_of x) vec3s (some (vec3 c.args.v))) (sym c.in-Scale.is) (scaled c.args.v)

pub returns-in-MorphWeights : goal.returns-in-MorphWeights
unfolding given
returns-in-MorphWeights c = subst (λ (x : Property). Gives _ (property_of x) vec3s (some (vec3 c.args.v))) (sym c.in-MorphWeights.is) (no-gift morph_weights vec3s (some (vec3 c.args.v)) refl)
