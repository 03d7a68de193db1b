use mathlib.Core.Path.{sym, ap, ◌∙◌}
use Prim.Native.Nat.{ℕ}
use Rattle.refusals.proofs.Told.{turned-down}
use Rattle.model.specs.Lists.{pick, is_some}
use Rattle.model.specs.Scene.{mesh_at}
use Rattle.model.specs.Refusals.{lowest}
use Rattle.tables.specs.Decoded.{lent_of, scene_of}
use Rattle.model.proofs.Numbers.{lowest-some}
use Rattle.bake_stages.proofs.numbers.check_first.Goals as goal

pub returns-in_err-check_early : goal.returns-in_err-check_early
returns-in_err-check_early c =
    let a = c.args in
    let s = scene_of (lent_of a.lent) in
    let n : ℕ = pick (is_some (mesh_at s a.node)) 0 7 in
    let d = turned-down _ c.in_err-check_early.field-0.0 _ c.from_residual.ensures.1 c.in_err-check_early.ensures in
    lowest-some _ n d.1 ∙ ap (λ (g : ℕ). lowest g n) d.0

pub returns-then-has_mesh : goal.returns-then-has_mesh
returns-then-has_mesh c =
    let a = c.args in
    let early = sym c.in_ok-check_early.ensures in
    let mesh = sym (c.has_mesh.ensures.told a.lent.floats.now a.lent.node_weights.now a.lent.mesh_weights.now) ∙ c.if-has_mesh.true in
    sym (λ j. lowest (early j) (pick (mesh j) 0 7))

pub returns : goal.returns
returns c =
    let a = c.args in
    let early = sym c.in_ok-check_early.ensures in
    let mesh = sym (c.has_mesh.ensures.told a.lent.floats.now a.lent.node_weights.now a.lent.mesh_weights.now) ∙ c.if-has_mesh.false in
    sym (λ j. lowest (early j) (pick (mesh j) 0 7))
