use mathlib.Core.Path.{sym, ap, ◌∙◌}
use mathlib.Core.Bool.{Bool}
use Rattle.model.specs.Lists.{pick}
use Rattle.vertex_rows.specs.Rows.{flipped, row_changed}
use Rattle.vertex_rows.proofs.RowSteps.{row_kept}
use Rattle.skinning.proofs.holding.hand.Goals as goal

pub returns-else-mirror : goal.returns-else-mirror
returns-else-mirror c =
    let a = c.args in
    row_kept 4 a.v a.tangents.now ∙ sym (ap (λ (b : Bool). row_changed 4 (λ x. pick b (flipped x) x) a.v a.tangents.now) c.if-mirror.false)
