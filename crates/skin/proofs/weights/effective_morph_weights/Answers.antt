use mathlib.Core.Path.{sym, ap, ◌∙◌}
use Rattle.refusals.proofs.Told.{accepted as drawn-accepted, refused as drawn-refused}
use Rattle.model.specs.Skin.{effective_weights}
use Rattle.tables.specs.declared.MeshRow.{MeshRow}
use Rattle.tables.specs.Decoded.{node_of, mesh_of}
use Rattle.checks.specs.Drawn.{lent_as}
use Rattle.skin.proofs.Blending.{refused, accepted}
use Rattle.skin.proofs.weights.effective_morph_weights.Goals as goal

pub returns-then-is_err : goal.returns-then-is_err
returns-then-is_err c = refused _ _ _ c.check_weights.ensures (drawn-refused _ (sym c.is_err.ensures.value ∙ c.if-is_err.true))

pub returns : goal.returns
returns c =
    let a = c.args in
    let l = lent_as a.words.now a.floats.now a.node_weights.now a.mesh_weights.now a.h in
    let n = c.node_row-row in
    accepted l a.node n.result _
    (sym c.check_weights.ensures ∙ drawn-accepted _ (sym c.is_err.ensures.value ∙ c.if-is_err.false))
    n.ensures
    (c.weights_of.ensures.weights a.words.now a.floats.now a.h ∙ ap (λ (m : MeshRow). effective_weights (node_of l n.result).weights (mesh_of l m)) c.mesh_row-mesh.ensures)
