use mathlib.Core.Path.{◌∙◌}
use native.Mathlib.Omega.{arith}
use lib.ListN.{get_or-eq_default}
use Rattle.model.proofs.ListLaws.{same-entry}
use Rattle.graph.proofs.Pushing.{zeros-fewer}
use Rattle.graph.proofs.Taking.{one-marked, one-passed}
use Rattle.graph.proofs.walk.list_one.Goals as goal

pub bounds-ids-top : goal.bounds-ids-top
bounds-ids-top c =
    omega (arith, zeros-fewer c.args.marks.now c.args.x 1 c.if-k-marks.true c.if-marks-k-eq0.true (omega arith), c.requires.1)

pub returns-then-marks-k-eq0 : goal.returns-then-marks-k-eq0
returns-then-marks-k-eq0 c =
    let b = c.if-k-marks.true in
    one-marked c.args.p c.args.x _ _ _ b c.if-marks-k-eq0.true
    (omega (arith, zeros-fewer c.args.marks.now c.args.x 1 b c.if-marks-k-eq0.true (omega arith), c.requires.1))

pub returns-else-marks-k-eq0 : goal.returns-else-marks-k-eq0
returns-else-marks-k-eq0 c =
    let s = c.args in
    one-passed s.p s.x _ _ _ (λ z. c.if-marks-k-eq0.false (same-entry s.marks.now s.x 0 1 c.if-k-marks.true ∙ z))

pub returns-else-k-marks : goal.returns-else-k-marks
returns-else-k-marks c =
    let s = c.args in
    one-passed s.p s.x _ _ _ (λ z. omega (arith, get_or-eq_default s.marks.now 1 c.if-k-marks.false))
