use mathlib.Core.Bool.{◌||◌}
use Rattle.std.specs.Option.{is_some}
use mathlib.Core.Path.{◌≡◌, sym, ap, ◌∙◌}
use Rattle.model.specs.Transform.{parts}
use Rattle.scene.specs.Values.{vec3, quat, transform_of}
use Rattle.pose_slots.specs.Slots.{pose_of}
use Rattle.pose_slots.proofs.Overlaid.{or-other, overlaid, some-posed, none-posed}
use Rattle.pose_slots.proofs.overlay.local_transform.Goals as goal

pub returns-then-is_some : goal.returns-then-is_some
returns-then-is_some c =
    let p = c.args.p in
    let there : ((c.is_some.result || c.is_some-2.result) || c.is_some-3.result)
    ≡ ((is_some p.translation || is_some p.rotation) || is_some p.scale)
    = λ j. (c.is_some.ensures j || c.is_some-2.ensures j) || c.is_some-3.ensures j in
    (λ j. parts (record {
      translation = (ap vec3 c.unwrap_or.ensures ∙ or-other vec3 p.translation c.parts_of-b.result.translation) j;
      rotation = (ap quat c.unwrap_or-then-is_some.ensures ∙ or-other quat p.rotation c.parts_of-b.result.rotation) j;
      scale = (ap vec3 c.unwrap_or-then-is_some-2.ensures ∙ or-other vec3 p.scale c.parts_of-b.result.scale) j;
    }))
    ∙ ap (overlaid (pose_of p)) c.parts_of-b.ensures
    ∙ some-posed p (transform_of c.args.base) (sym there ∙ c.if-is_some.true)

pub returns : goal.returns
returns c =
    let p = c.args.p in
    let there : ((c.is_some.result || c.is_some-2.result) || c.is_some-3.result)
    ≡ ((is_some p.translation || is_some p.rotation) || is_some p.scale)
    = λ j. (c.is_some.ensures j || c.is_some-2.ensures j) || c.is_some-3.ensures j in
    none-posed p (transform_of c.args.base) (sym there ∙ c.if-is_some.false)
