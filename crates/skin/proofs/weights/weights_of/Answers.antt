use mathlib.Core.Path.{sym, ap, ◌∙◌}
use lib.ListN.{length}
use Rattle.tables.specs.Decoded.{span_in, mesh_of}
use Rattle.checks.specs.Drawn.{lent_as}
use Rattle.skin.proofs.Blending.{own_first, none-own, empty-own}
use Rattle.skin.proofs.weights.weights_of.Goals as goal
use Rattle.skin.proofs.weights.weights_of.Goals.{then-slot-ne0+else-own-ne0, else-slot-ne0}

pub returns-then-own-ne0 : goal.returns-then-own-ne0
returns-then-own-ne0 c =
    let a = c.args in
    let own = c.floats_in-own.ensures in
    record {
      weights = λ words floats h.
          own
          ∙ own_first a.node.weights.mark (span_in a.node_weights.now a.node.weights.part 1) (mesh_of (lent_as words floats a.node_weights.now a.mesh_weights.now h) a.mesh)
          c.if-slot-ne0.true (λ z. c.if-own-ne0.true (ap length own ∙ z));
    }

pub returns : goal.returns
returns c =
    let a = c.args in
    let slot = a.node.weights in
    let own = span_in a.node_weights.now slot.part 1 in
    record {
      weights = λ words floats h.
          let mesh = mesh_of (lent_as words floats a.node_weights.now a.mesh_weights.now h) a.mesh in
          c.floats_in.ensures
          ∙ elim c.if-slot-ne0.branch [
            | then-slot-ne0+else-own-ne0 w ↦ empty-own slot.mark own mesh (sym (ap length w.floats_in-own.ensures) ∙ w.if-own-ne0.false)
            | else-slot-ne0 w ↦ none-own slot.mark own mesh w.if-slot-ne0.false
          ];
    }
