use mathlib.Core.Path.{sym, ap}
use mathlib.Core.Bool.{Bool}
use Prim.Native.Nat.{◌+◌}
use borrow.Author.Tests.{eq-eqb, ne_eqb}
use Rattle.model.specs.Lists.{pick}
use Rattle.text_breaks.proofs.lines.line_on.Goals as goal

pub returns-then-b-eq10 : goal.returns-then-b-eq10
returns-then-b-eq10 c =
    let a = c.args in
    sym (ap (λ (t : Bool). pick t (a.line + 1) a.line) (eq-eqb a.b 10 c.if-b-eq10.true))

pub returns-else-b-eq10 : goal.returns-else-b-eq10
returns-else-b-eq10 c =
    let a = c.args in
    sym (ap (λ (t : Bool). pick t (a.line + 1) a.line) (ne_eqb a.b 10 c.if-b-eq10.false))
