use mathlib.Core.Path.{ap, ◌∙◌}
use mathlib.Core.List.{◌++◌}
use Rattle.scene.specs.Values.{vec3, quat}
use Rattle.pose_slots.proofs.Overlaid.{or-other}
use Rattle.pose_slots.proofs.slots.floats_of.Goals as goal

pub returns : goal.returns
returns c =
    let p = c.args.p in
    let t = ap vec3 c.unwrap_or-t.ensures ∙ or-other vec3 p.translation _ in
    let r = ap quat c.unwrap_or-r.ensures ∙ or-other quat p.rotation _ in
    let s = ap vec3 c.unwrap_or-s.ensures ∙ or-other vec3 p.scale _ in
    λ j. t j ++ (r j ++ s j)
