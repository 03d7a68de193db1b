-- What the code holds of a channel tells whether the channel gives a value. Assumes nothing.
use mathlib.Core.Path.{◌≡◌, refl, sym, ◌∙◌}
use mathlib.Core.Bool.{Bool, ◌||◌}
use mathlib.Core.Option.{Option, none, some}
use Rattle.std.specs.Prelude as rust
use Rattle.std.specs.Option as held
use Rattle.model.specs.Lists.{is_some, and_then}
use Rattle.model.specs.Vector.{Vector}
use Rattle.model.specs.Scene.{Property, translation, rotation, scale, morph_weights, Kind}
use Rattle.model.specs.Pose.{Pose, at_rest, given, replaced}
use Rattle.pose_slots.specs.declared.Gift.{Gift}
use Rattle.pose_slots.specs.declared.Gift.TheVariants as gift
use Rattle.pose_slots.specs.Gifts.{bare, received, brings_weights, Gives}

-- some part of a pose is there, its weights aside
abbrev some_part : Pose → Bool
some_part p = is_some p.translation || is_some p.rotation || is_some p.scale

by_value : (q : Property) (o : Option Vector)
    → (some_part (bare (replaced q o at_rest)) || is_some (replaced q o at_rest).weights) ≡ is_some o
unfolding replaced
by_value translation none = refl
by_value translation (some v) = refl
by_value rotation none = refl
by_value rotation (some v) = refl
by_value scale none = refl
by_value scale (some v) = refl
by_value morph_weights none = refl
by_value morph_weights (some v) = refl

by-gift : (g : rust.Option Gift) → (some_part (received g (bare at_rest)) || brings_weights g) ≡ held.is_some g
by-gift (rust.Some (gift.Translation v)) = refl
by-gift (rust.Some (gift.Rotation q)) = refl
by-gift (rust.Some (gift.Scale v)) = refl
by-gift (rust.Some gift.Weights) = refl
by-gift rust.None = refl

pub something-given : (g : rust.Option Gift) (q : Property) (k : Kind) (v : Option Vector) → Gives g q k v
    → is_some (and_then v (given q k)) ≡ held.is_some g
something-given g q k v h =
    sym (by_value q (and_then v (given q k))) ∙ (λ j. some_part (h.pose at_rest j) || h.weights j) ∙ by-gift g
