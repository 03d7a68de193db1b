use mathlib.Core.Path.{sym, ap, ◌∙◌}
use mathlib.Core.Bool.{Bool}
use Rattle.model.specs.Lists.{pick}
use Rattle.deltas.specs.Betweens.{betweens_in}
use Rattle.mesh.specs.Stations.{widened_in, widened_by}
use Rattle.mesh.proofs.blending.widened_at.Goals as goal

pub returns-then-is_kept : goal.returns-then-is_kept
unfolding widened_by
returns-then-is_kept c =
    let a = c.args in
    let all = betweens_in a.lent.words.now a.lent.floats.now a.lent.header a.betweens in
    let s = c.station_at-s in
    c.widened.ensures
    ∙ ap (λ (k : Bool). pick k (widened_in a.lent.floats.now a.w a.b s.result) a.b) (sym c.if-is_kept.true ∙ c.is_kept.ensures)
    ∙ ap (widened_by a.lent.floats.now a.w all a.b) s.ensures

pub returns : goal.returns
unfolding widened_by
returns c =
    let a = c.args in
    let all = betweens_in a.lent.words.now a.lent.floats.now a.lent.header a.betweens in
    let s = c.station_at-s in
    ap (λ (k : Bool). pick k (widened_in a.lent.floats.now a.w a.b s.result) a.b) (sym c.if-is_kept.false ∙ c.is_kept.ensures)
    ∙ ap (widened_by a.lent.floats.now a.w all a.b) s.ensures
