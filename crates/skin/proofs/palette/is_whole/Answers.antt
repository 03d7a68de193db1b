use mathlib.Core.Path.{sym, ap, ◌∙◌}
use mathlib.Core.Logic.{inl, inr}
use Rattle.model.specs.Lists.{is_some}
use Rattle.skin.proofs.Palettes.{too_short, by-worlds}
use Rattle.skin.proofs.palette.is_whole.Goals as goal
use Rattle.skin.proofs.palette.is_whole.Goals.{then-given-ne0+else-given-joints, else-given-ne0}

pub returns-then-given-joints : goal.returns-then-given-joints
returns-then-given-joints c =
    let a = c.args in
    (λ slots. sym (ap is_some (too_short a.n a.places.now slots a.joints.now a.binds.now c.if-given-ne0.true c.if-given-joints.true)))

pub returns : goal.returns
returns c =
    let a = c.args in
    (λ slots. c.all_placed.ensures ∙ by-worlds a.n a.places.now slots a.joints.now a.binds.now (
    elim c.if-given-ne0.branch [
      | then-given-ne0+else-given-joints w ↦ inr w.if-given-joints.false
      | else-given-ne0 w ↦ inl w.if-given-ne0.false
    ]))
