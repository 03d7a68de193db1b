use mathlib.Core.Path.{ap, ◌∙◌}
use mathlib.Core.List.{[], ◌∷◌}
use Rattle.std.specs.Int.{from_bool}
use Rattle.scene.specs.Values.{vec3, quat}
use Rattle.pose_slots.proofs.SlotLaws.{is-there}
use Rattle.pose_slots.proofs.slots.words_of.Goals as goal

pub returns : goal.returns
returns c =
    let p = c.args.p in
    λ j.
    (c.from.ensures ∙ ap from_bool c.is_some.ensures ∙ is-there vec3 p.translation) j
    ∷ (c.from-2.ensures ∙ ap from_bool c.is_some-2.ensures ∙ is-there quat p.rotation) j
    ∷ (c.from-3.ensures ∙ ap from_bool c.is_some-3.ensures ∙ is-there vec3 p.scale) j
    ∷ c.args.w ∷ []
