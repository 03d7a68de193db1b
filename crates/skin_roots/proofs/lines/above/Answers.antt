use mathlib.Core.Path.{sym, ap}
use mathlib.Core.Bool.{Bool}
use borrow.Author.Tests.{eq-eqb, ne_eqb}
use lib.ListN.{get_or, get_or-eq_default}
use Rattle.model.specs.Lists.{pick}
use Rattle.skin_roots.proofs.lines.above.Goals as goal

pub returns-then-left-eq0 : goal.returns-then-left-eq0
returns-then-left-eq0 c =
    let a = c.args in
    ap (λ (b : Bool). pick b 0 (get_or a.codes.now a.a 0)) (sym (eq-eqb a.left 0 c.if-left-eq0.true))

pub returns-then-a-codes : goal.returns-then-a-codes
returns-then-a-codes c =
    let a = c.args in
    ap (λ (b : Bool). pick b 0 (get_or a.codes.now a.a 0)) (sym (ne_eqb a.left 0 c.if-left-eq0.false))

pub returns : goal.returns
returns c =
    let a = c.args in
    sym (λ k. pick (ne_eqb a.left 0 c.if-left-eq0.false k) 0 (get_or-eq_default a.codes.now 0 c.if-a-codes.false k))
