-- Of the first k, n have the weight.
use mathlib.Core.Path.{◌≡◌, refl, sym, ap, ◌∙◌}
use mathlib.Core.Bool.{Bool, true, false}
use mathlib.Core.List.{List}
use Prim.Native.Nat.{ℕ, ◌+◌}
use native.Mathlib.Omega.{arith}
use lib.Ieee.{Float, eq}
use lib.ListN.{take}
use lib.Seq.{take_all}
use Rattle.model.specs.Lists.{pick, keep}
use Rattle.model.specs.Scene.{InBetween}
use Rattle.deltas.specs.declared.Station.{Station}
use Rattle.deltas.specs.Betweens.{betweens_in, sharing}
use Rattle.deltas.proofs.BetweenLaws.{kept_more, unread, between-count, between-weight}
use Rattle.deltas.proofs.betweens.sharing_weight.Goals as goal
use Rattle.deltas.proofs.betweens.sharing_weight.Goals.{then-station_at-w, else-station_at-w}

zero_more : (n : ℕ) → n ≡ n + 0
zero_more n = omega arith

pub loop-k-init : goal.loop-k-init
unfolding keep
loop-k-init c = (omega arith, omega arith, refl)

pub loop-k-preserved : goal.loop-k-preserved
loop-k-preserved c =
    let a = c.args in
    let l = c.loop-k in
    let list = betweens_in a.lent.words.now a.lent.floats.now a.lent.header a.betweens in
    let n = between-count a.lent.words.now a.lent.floats.now a.lent.header a.betweens in
    let v = ap (λ (s : Station). s.weight) c.station_at.ensures ∙ sym (between-weight a.lent.words.now a.lent.floats.now a.lent.header a.betweens l.k (omega arith)) in
    let more : (b : Bool) → eq c.station_at.result.weight a.w ≡ b → sharing (take (l.k + 1) list) a.w ≡ l.n + pick b 1 0
    = λ b e. kept_more (λ (x : InBetween). eq x.weight a.w) list l.k unread b (omega arith) (ap (λ (x : Float). eq x a.w) (sym v) ∙ e) ∙ ap (λ (m : ℕ). m + pick b 1 0) (sym l.invariant.2) in
    elim c.if-station_at-w.branch [
      | then-station_at-w w ↦ (omega arith, omega arith, w.n-is ∙ sym (more true w.if-station_at-w.true))
      | else-station_at-w w ↦ (omega arith, omega arith, w.n-is ∙ zero_more l.n ∙ sym (more false w.if-station_at-w.false))
    ]

pub returns : goal.returns
returns c =
    let a = c.args in
    let l = c.loop-k in
    let list = betweens_in a.lent.words.now a.lent.floats.now a.lent.header a.betweens in
    let n = between-count a.lent.words.now a.lent.floats.now a.lent.header a.betweens in
    l.invariant.2 ∙ ap (λ (m : List InBetween). sharing m a.w) (take_all l.k list (omega arith))
