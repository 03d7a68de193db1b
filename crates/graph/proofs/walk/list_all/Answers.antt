use mathlib.Core.Path.{◌≡◌, refl, ◌∙◌, subst}
use Prim.Native.Nat.{ℕ}
use native.Mathlib.Omega.{arith}
use lib.ListN.{drop}
use Rattle.model.specs.Parents.{mark_all}
use Rattle.graph.specs.Stack.{Turned}
use Rattle.graph.proofs.Taking.{none-listed, one-listed}
use Rattle.graph.proofs.walk.list_all.Goals as goal

pub loop-i-init : goal.loop-i-init
loop-i-init c =
    let s = c.args in
    (omega arith, none-listed s.p s.list.now _ _ _, refl, refl)

pub list_one-at-requires : goal.list_one-at-requires
list_one-at-requires c =
    let l = c.loop-i in
    (c.requires.0, omega (arith, c.requires.1, l.invariant.1.pending, l.invariant.2))

pub loop-i-preserved : goal.loop-i-preserved
loop-i-preserved c =
    let l = c.loop-i in
    let s = c.args in (
      omega (arith, l.invariant.0),
      one-listed s.p s.list.now _ _ _ l.i _ _ _ _ _ _ c.loop-i-test.true l.invariant.0 l.invariant.1 c.list_one-at.ensures,
      c.list_one-at.auto.ids ∙ l.invariant.2,
      c.list_one-at.auto.marks ∙ l.invariant.3,
    )

pub returns : goal.returns
returns c =
    let s = c.args in
    let l = c.loop-i in
    let z : l.i ≡ 0 = omega arith in
    subst (λ (k : ℕ). Turned (mark_all s.p (drop k s.list.now)) s.ids.now s.top s.marks.now l.ids l.at l.marks) z l.invariant.1
