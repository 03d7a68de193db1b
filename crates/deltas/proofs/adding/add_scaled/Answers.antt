-- The first k floats are done.
use mathlib.Core.Path.{◌≡◌, refl, sym, ap, ◌∙◌}
use Prim.Native.Nat.{ℕ, ◌*◌}
use native.Mathlib.Omega.{arith}
use borrow.Author.Rules.{rules}
use lib.Ieee.{nan}
use Rattle.deltas.proofs.Floatwise.{done_to, none_done, step}
use Rattle.deltas.proofs.AddLaws.{scaled, scaled-rows}
use Rattle.deltas.proofs.adding.add_scaled.Goals as goal

pub loop-k-init : goal.loop-k-init
loop-k-init c = (omega arith, refl, sym (none_done _ _ _))

pub loop-k-preserved : goal.loop-k-preserved
loop-k-preserved c =
    let a = c.args in
    let l = c.loop-k in
    (omega arith, search rules, step (scaled a.w a.deltas.now) nan a.out.now l.out l.k l.invariant.2 (search rules))

pub returns : goal.returns
returns c =
    let a = c.args in
    let l = c.loop-k in
    let n = c.min-n.ensures in
    let e : l.k ≡ c.min-n.result * 3 = omega arith in
    l.invariant.2 ∙ ap (done_to (scaled a.w a.deltas.now) nan a.out.now) (e ∙ ap (λ (m : ℕ). m * 3) n) ∙ scaled-rows a.w a.out.now a.deltas.now
