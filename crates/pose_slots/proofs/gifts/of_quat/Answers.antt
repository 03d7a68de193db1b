use mathlib.Core.Path.{refl, sym, subst}
use mathlib.Core.Option.{some}
use Rattle.model.specs.Scene.{translation, scale, morph_weights, quats}
use Rattle.model.specs.Pose.{given}
use Rattle.scene.specs.Values.{quat}
use Rattle.tables.specs.declared.Property.{Property}
use Rattle.tables.specs.Tags.{property_of}
use Rattle.pose_slots.specs.Gifts.{Gives}
use Rattle.pose_slots.proofs.GiftLaws.{no-gift}
use Rattle.pose_slots.proofs.gifts.of_quat.Goals as goal

pub returns-in-Translation : goal.returns-in-Translation
unfolding given
returns-in-Translation c = subst (λ (x : Property). Gives _ (property_of x) quats (some (quat c.args.q))) (sym c.in-Translation.is) (no-gift translation quats (some (quat c.args.q)) refl)

pub returns-in-Rotation : goal.returns-in-Rotation
unfolding given
returns-in-Rotation c = subst (λ (x : Property). Gives c.rotation_of.result (property_of x) quats (some (quat c.args.q))) (sym c.in-Rotation.is) c.rotation_of.ensures

pub returns-in-Scale : goal.returns-in-Scale
unfolding given
returns-in-Scale c = subst (λ (x : Property). Gives _ (property_of x) quats (some (quat c.args.q))) (sym c.in-Scale.is) (no-gift scale quats (some (quat c.args.q)) refl)

pub returns-in-MorphWeights : goal.returns-in-MorphWeights
unfolding given
returns-in-MorphWeights c = subst (λ (x : Property). Gives _ (property_of x) quats (some (quat c.args.q))) (sym c.in-MorphWeights.is) (no-gift morph_weights quats (some (quat c.args.q)) refl)
