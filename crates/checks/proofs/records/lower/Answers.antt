use mathlib.Core.Path.{ap, sym, ◌∙◌}
use native.Mathlib.Omega.{arith}
use Rattle.refusals.specs.Drawn.{number_drawn}
use Rattle.refusals.proofs.Told.{not-none}
use Rattle.checks.proofs.Lowest.{first-none, second_none, first-lower, second-lower}
use Rattle.checks.proofs.records.lower.Goals as goal

pub returns-in_default : goal.returns-in_default
returns-in_default c = first-none _ _ (ap number_drawn c.in_default.is)

pub returns-in_default-b : goal.returns-in_default-b
returns-in_default-b c =
    let x = ap number_drawn c.in-Err.is in
    sym x ∙ second_none _ _ (λ z. not-none _ (sym x ∙ z)) (ap number_drawn c.in_default-b.is)

pub returns-then-from : goal.returns-then-from
returns-then-from c =
    let x = ap number_drawn c.in-Err.is in
    let y = ap number_drawn c.in-Err-b.is in
    sym x
    ∙ first-lower _ _ (λ z. not-none _ (sym x ∙ z)) (λ z. not-none _ (sym y ∙ z))
    (omega (arith, x, y, c.from.ensures, c.from-2.ensures, c.if-from.true))

pub returns-else-from : goal.returns-else-from
returns-else-from c =
    let x = ap number_drawn c.in-Err.is in
    let y = ap number_drawn c.in-Err-b.is in
    sym y
    ∙ second-lower _ _ (λ z. not-none _ (sym x ∙ z)) (λ z. not-none _ (sym y ∙ z))
    (omega (arith, x, y, c.from.ensures, c.from-2.ensures, c.if-from.false))
