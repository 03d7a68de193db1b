use mathlib.Core.Path.{refl, sym, subst}
use mathlib.Core.Option.{some}
use Rattle.model.specs.Scene.{translation, rotation, scale, scalars}
use Rattle.model.specs.Pose.{given}
use Rattle.tables.specs.declared.Property.{Property}
use Rattle.tables.specs.Tags.{property_of}
use Rattle.pose_slots.specs.Gifts.{Gives}
use Rattle.pose_slots.proofs.GiftLaws.{no-gift, weighted}
use Rattle.pose_slots.proofs.gifts.of_scalars.Goals as goal

pub returns-in-Translation : goal.returns-in-Translation
unfolding given
returns-in-Translation c = λ w. subst (λ (x : Property). Gives _ (property_of x) scalars (some w)) (sym c.in-Translation.is) (no-gift translation scalars (some w) refl)

pub returns-in-Rotation : goal.returns-in-Rotation
unfolding given
returns-in-Rotation c = λ w. subst (λ (x : Property). Gives _ (property_of x) scalars (some w)) (sym c.in-Rotation.is) (no-gift rotation scalars (some w) refl)

pub returns-in-Scale : goal.returns-in-Scale
unfolding given
returns-in-Scale c = λ w. subst (λ (x : Property). Gives _ (property_of x) scalars (some w)) (sym c.in-Scale.is) (no-gift scale scalars (some w) refl)

pub returns-in-MorphWeights : goal.returns-in-MorphWeights
unfolding given
returns-in-MorphWeights c = λ w. subst (λ (x : Property). Gives _ (property_of x) scalars (some w)) (sym c.in-MorphWeights.is) (weighted w)
