use native.Mathlib.Omega.{arith}
use Rattle.scene_marks.proofs.MarkLaws.{choosing-starts, choosing-on, choosing-found, choosing-ends}
use Rattle.scene_marks.proofs.chosen.Goals as goal

pub returns-then-m-ne0 : goal.returns-then-m-ne0
returns-then-m-ne0 c =
    let going = c.loop-i.invariant in
    (choosing-found going c.loop-i-test.true c.mark_at-m.ensures c.if-m-ne0.true, omega arith)

pub loop-i-preserved : goal.loop-i-preserved
loop-i-preserved c =
    choosing-on c.loop-i.invariant c.loop-i-test.true c.mark_at-m.ensures c.if-m-ne0.false

pub returns : goal.returns
returns c = (choosing-ends c.loop-i.invariant c.loop-i-test.false, omega arith)

pub loop-i-init : goal.loop-i-init
loop-i-init c = choosing-starts
