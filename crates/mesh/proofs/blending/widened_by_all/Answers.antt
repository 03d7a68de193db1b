-- The first k in-betweens are done.
use mathlib.Core.Path.{refl, sym, ap, ◌∙◌}
use native.Mathlib.Omega.{arith}
use lib.Seq.{take_all}
use Rattle.model.specs.Lists.{foldl}
use Rattle.model.proofs.ListLaws.{length-tabulate, get_d_tabulate, foldl-more}
use Rattle.deltas.specs.Betweens.{betweens_in, station_at}
use Rattle.mesh.specs.Stations.{stations_in, widened_by}
use Rattle.mesh.proofs.blending.widened_by_all.Goals as goal

pub loop-k-init : goal.loop-k-init
unfolding foldl
loop-k-init c = (omega arith, refl)

pub loop-k-preserved : goal.loop-k-preserved
loop-k-preserved c =
    let a = c.args in
    let l = c.loop-k in
    let f = widened_by a.lent.floats.now a.w (betweens_in a.lent.words.now a.lent.floats.now a.lent.header a.betweens) in
    let at = station_at a.lent.words.now a.lent.floats.now a.lent.header a.betweens in
    let list = stations_in a.lent.words.now a.lent.floats.now a.lent.header a.betweens in
    let n = length-tabulate a.betweens.count at in (
      omega arith,
      c.widened_at-b.ensures
          ∙ (λ j. f (l.invariant.1 j) (sym (get_d_tabulate a.betweens.count at l.k (at 0) (omega arith)) j))
          ∙ sym (foldl-more f a.start list l.k (at 0) (omega arith)),
    )

pub returns : goal.returns
returns c =
    let a = c.args in
    let l = c.loop-k in
    let f = widened_by a.lent.floats.now a.w (betweens_in a.lent.words.now a.lent.floats.now a.lent.header a.betweens) in
    let at = station_at a.lent.words.now a.lent.floats.now a.lent.header a.betweens in
    let n = length-tabulate a.betweens.count at in
    l.invariant.1 ∙ ap (foldl f a.start) (take_all l.k (stations_in a.lent.words.now a.lent.floats.now a.lent.header a.betweens) (omega arith))
