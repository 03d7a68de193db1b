use mathlib.Core.Path.{ap, ◌∙◌}
use mathlib.Core.Bool.{Bool, ◌&&◌}
use Rattle.brackets.specs.Met.{judge}
use Rattle.scene_forms.proofs.fields.behind_items.Goals as goal

pub returns : goal.returns
returns c =
    let a = c.args in
    let holds = ap (λ (y : Bool). a.l.sorted && y) c.is_sized.ensures in
    let shape = c.judge.ensures ∙ ap (λ (y : Bool). judge y a.l.met.at a.s.shape) holds in
    λ i. record {
      next = a.l.next;
      counts = c.count_items.ensures i;
      met = c.meet.ensures i;
      shape = shape i;
    }
