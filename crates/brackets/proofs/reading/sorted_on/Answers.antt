use mathlib.Core.Path.{sym}
use mathlib.Core.Bool.{and-true, and-false}
use Rattle.model.specs.Lists.{every}
use Rattle.brackets.proofs.reading.sorted_on.Goals as goal

pub returns-then-not-float : goal.returns-then-not-float
unfolding every
returns-then-not-float c = simp c.if-not-float.true (sym (and-true c.args.so_far))

pub returns-then-is_float : goal.returns-then-is_float
unfolding every
returns-then-is_float c =
    let a = c.args in
    simp (c.if-not-float.false, ← c.is_float.ensures, c.if-is_float.true)
    (sym (and-true a.so_far))

pub returns : goal.returns
unfolding every
returns c =
    let a = c.args in
    simp (c.if-not-float.false, ← c.is_float.ensures, c.if-is_float.false)
    (sym (and-false a.so_far))
