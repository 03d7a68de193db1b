use mathlib.Core.Path.{sym, ◌∙◌}
use mathlib.Core.List.{◌∷◌}
use native.Mathlib.Numerals.{add-one}
use native.Mathlib.Omega.{arith}
use lib.ListN.{length-set}
use Rattle.grammar.specs.Digits.{last_digits}
use Rattle.spelling.proofs.Pushing.{sets-out}
use Rattle.spelling.proofs.spaced_digits.Goals as goal

pub returns-then-out-at : goal.returns-then-out-at
returns-then-out-at c =
    let a = c.args in
    sym (sets-out _ _ (32 ∷ last_digits a.base a.count a.n) c.if-out-at.true)

pub overflow_sub-out : goal.overflow_sub-out
overflow_sub-out c = let a = c.args in omega (arith, length-set a.out.now a.at 32)

pub shape_of-out-then-count-out : goal.shape_of-out-then-count-out
shape_of-out-then-count-out c =
    let a = c.args in
    c.digits.auto.out ∙ length-set a.out.now a.at 32

pub returns-then-count-out : goal.returns-then-count-out
returns-then-count-out c = rw add-one at c.digits.ensures

pub shape_of-out-else-count-out : goal.shape_of-out-else-count-out
shape_of-out-else-count-out c =
    let a = c.args in
    c.digits-else-count-out.auto.out ∙ length-set a.out.now a.at 32

pub returns-else-count-out : goal.returns-else-count-out
returns-else-count-out c = rw add-one at c.digits-else-count-out.ensures
