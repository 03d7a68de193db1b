use mathlib.Core.Bool.{Bool}
use mathlib.Core.Path.{ap, ◌∙◌}
use Rattle.std.specs.Bool.{then_some}
use Rattle.model.specs.Vector.{at}
use Rattle.pose_slots.proofs.slots.pose_from.Goals as goal

pub returns : goal.returns
returns c =
    let ten = c.args.ten.now in
    λ j. record {
      translation =
          (c.then_some.ensures ∙ ap (λ (b : Bool). then_some b (record { x = at ten 0; y = at ten 1; z = at ten 2 })) c.is_marked.ensures) j;
      rotation =
          (c.then_some-2.ensures
          ∙ ap (λ (b : Bool). then_some b (record { x = at ten 3; y = at ten 4; z = at ten 5; w = at ten 6 })) c.is_marked-2.ensures) j;
      scale =
          (c.then_some-3.ensures ∙ ap (λ (b : Bool). then_some b (record { x = at ten 7; y = at ten 8; z = at ten 9 })) c.is_marked-3.ensures) j;
    }
