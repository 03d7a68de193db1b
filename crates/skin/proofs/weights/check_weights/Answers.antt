use mathlib.Core.Path.{sym, ◌∙◌}
use mathlib.Core.Bool.{true, false}
use Rattle.refusals.proofs.Told.{turned-down}
use Rattle.skin.proofs.Blending.{drawn-first, by-mesh}
use Rattle.skin.proofs.weights.check_weights.Goals as goal

pub returns-in_err-check_tables : goal.returns-in_err-check_tables
returns-in_err-check_tables c =
    let d = turned-down _ c.in_err-check_tables.field-0.0 _ c.from_residual.ensures.1 c.in_err-check_tables.ensures in
    drawn-first _ _ _ d.0 d.1

pub returns-then-has_mesh : goal.returns-then-has_mesh
returns-then-has_mesh c =
    by-mesh _ _ true (sym c.in_ok-check_tables.ensures) (sym c.if-has_mesh.true ∙ c.has_mesh.ensures.told _ _ _)

pub returns : goal.returns
returns c =
    by-mesh _ _ false (sym c.in_ok-check_tables.ensures) (sym c.if-has_mesh.false ∙ c.has_mesh.ensures.told _ _ _)
