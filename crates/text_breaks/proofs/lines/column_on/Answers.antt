use mathlib.Core.Path.{sym, ap}
use mathlib.Core.Bool.{Bool}
use Prim.Native.Nat.{◌+◌}
use borrow.Author.Tests.{eq-eqb, ne_eqb}
use Rattle.model.specs.Lists.{pick}
use Rattle.text_breaks.proofs.lines.column_on.Goals as goal

pub returns-then-b-eq10 : goal.returns-then-b-eq10
returns-then-b-eq10 c =
    let a = c.args in
    sym (ap (λ (t : Bool). pick t 1 (a.column + 1)) (eq-eqb a.b 10 c.if-b-eq10.true))

pub returns-else-b-eq10 : goal.returns-else-b-eq10
returns-else-b-eq10 c =
    let a = c.args in
    sym (ap (λ (t : Bool). pick t 1 (a.column + 1)) (ne_eqb a.b 10 c.if-b-eq10.false))
