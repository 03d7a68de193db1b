-- What ends the walk from the loop's test ends it from the start.
use mathlib.Core.Path.{refl, ◌∙◌}
use native.Mathlib.Omega.{arith}
use Rattle.graph.proofs.Taking.{none-waits, one-taken}
use Rattle.graph.proofs.walk.drain.Goals as goal

pub loop-left-init : goal.loop-left-init
loop-left-init c = (c.requires.0, (λ out d. d), refl, refl)

pub step-left-requires : goal.step-left-requires
step-left-requires c =
    let l = c.loop-left in
    (c.loop-left-test.true, omega (arith, l.invariant.0, l.invariant.2), omega (arith, c.requires.1, l.invariant.3))

pub loop-left-smaller : goal.loop-left-smaller
loop-left-smaller c =
    let p = c.step-left in
    omega (arith, p.ensures.pending, c.loop-left-test.true)

pub loop-left-preserved : goal.loop-left-preserved
loop-left-preserved c =
    let l = c.loop-left in
    let s = c.args in (
      omega (arith, c.step-left.ensures.pending, c.loop-left-test.true, l.invariant.0),
      (λ out d. l.invariant.1 out (one-taken s.words.now s.nodes l.ids l.left l.marks out _ _ _ c.loop-left-test.true c.step-left.auto.marks c.step-left.ensures d)),
      c.step-left.auto.ids ∙ l.invariant.2,
      c.step-left.auto.marks ∙ l.invariant.3,
    )

pub returns : goal.returns
returns c =
    let l = c.loop-left in
    l.invariant.1 l.marks (none-waits _ _ _ _ _ _ (omega arith) refl)
