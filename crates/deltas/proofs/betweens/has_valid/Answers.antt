-- None of the first k is valid.
use mathlib.Core.Path.{refl, sym, ap, ◌∙◌}
use native.Mathlib.Omega.{arith}
use lib.Seq.{take_all}
use Rattle.model.specs.Lists.{any_of}
use Rattle.model.specs.Morph.{valid}
use Rattle.deltas.specs.declared.Station.{Station}
use Rattle.deltas.specs.Betweens.{betweens_in}
use Rattle.deltas.proofs.BetweenLaws.{none_more, one-does, unread, between-count, between-weight}
use Rattle.deltas.proofs.betweens.has_valid.Invariants.{is_valid}
use Rattle.deltas.proofs.betweens.has_valid.Goals as goal

pub loop-k-init : goal.loop-k-init
unfolding any_of
loop-k-init c = (omega arith, refl)

pub returns-then-is_valid : goal.returns-then-is_valid
returns-then-is_valid c =
    let a = c.args in
    let l = c.loop-k in
    let n = between-count a.lent.words.now a.lent.floats.now a.lent.header a.betweens in
    let w = between-weight a.lent.words.now a.lent.floats.now a.lent.header a.betweens l.k (omega arith) in
    let e = c.is_valid.ensures ∙ ap (λ (s : Station). valid s.weight) c.station_at.ensures ∙ ap valid (sym w) in
    sym (one-does is_valid (betweens_in a.lent.words.now a.lent.floats.now a.lent.header a.betweens) l.k unread (omega arith) (sym e ∙ c.if-is_valid.true))

pub loop-k-preserved : goal.loop-k-preserved
loop-k-preserved c =
    let a = c.args in
    let l = c.loop-k in
    let n = between-count a.lent.words.now a.lent.floats.now a.lent.header a.betweens in
    let w = between-weight a.lent.words.now a.lent.floats.now a.lent.header a.betweens l.k (omega arith) in
    let e = c.is_valid.ensures ∙ ap (λ (s : Station). valid s.weight) c.station_at.ensures ∙ ap valid (sym w) in
    (omega arith, none_more is_valid (betweens_in a.lent.words.now a.lent.floats.now a.lent.header a.betweens) l.k unread (omega arith) l.invariant.1 (sym e ∙ c.if-is_valid.false))

pub returns : goal.returns
returns c =
    let a = c.args in
    let l = c.loop-k in
    let list = betweens_in a.lent.words.now a.lent.floats.now a.lent.header a.betweens in
    let n = between-count a.lent.words.now a.lent.floats.now a.lent.header a.betweens in
    sym l.invariant.1 ∙ ap (any_of is_valid) (take_all l.k list (omega arith))
