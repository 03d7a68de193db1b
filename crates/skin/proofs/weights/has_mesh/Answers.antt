use mathlib.Core.Path.{sym, ap, ◌∙◌}
use Rattle.model.specs.Lists.{is_some}
use Rattle.checks.specs.Drawn.{lent_as}
use Rattle.skin.proofs.Blending.{mesh-past, mesh-by-row}
use Rattle.skin.proofs.weights.has_mesh.Goals as goal

pub returns-then-nodes-i : goal.returns-then-nodes-i
returns-then-nodes-i c =
    let a = c.args in
    record {
      told = λ f n m.
          sym (ap is_some (mesh-past (lent_as a.words.now f n m a.h) a.node c.if-nodes-i.true));
    }

pub returns : goal.returns
returns c =
    let r = c.node_row in
    let a = c.args in
    record {
      told = λ f n m.
          c.row_has_mesh.ensures ∙ mesh-by-row (lent_as a.words.now f n m a.h) a.node r.result r.ensures c.if-nodes-i.false;
    }
