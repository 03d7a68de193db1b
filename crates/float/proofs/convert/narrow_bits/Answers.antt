-- Each of its four answers is a law of `proofs/Narrowing.antt`.
use Rattle.std.proofs.Common.{ℕ, ◌+◌, ◌-◌, ◌/◌, ◌^◌, sym, ap, ◌∙◌, subst, arith}
use lib.Bits.{and_mask, and_le_r}
use lib.Ieee.Nearest.{closest}
use Rattle.float.specs.Patterns.{Narrows}
use Rattle.float.proofs.Narrowing.{at_high, at_top, at_low, at_zero}
use Rattle.float.proofs.convert.narrow_bits.Goals as goal

pub returns-then-a-ge5183643171103440896 : goal.returns-then-a-ge5183643171103440896
returns-then-a-ge5183643171103440896 c = at_top c.args.a c.if-a-ge5183643171103440896.true c.requires

pub returns-then-a-ge4039728865751334912 : goal.returns-then-a-ge4039728865751334912
returns-then-a-ge4039728865751334912 c =
    let a = c.args.a in
    subst (λ (r : ℕ). Narrows a r) (sym c.nearest_shift.ensures) (at_high a c.if-a-ge4039728865751334912.true c.if-a-ge5183643171103440896.false)

pub returns-then-a-lt3927138875067072512 : goal.returns-then-a-lt3927138875067072512
returns-then-a-lt3927138875067072512 c = at_zero c.args.a c.if-a-lt3927138875067072512.true

pub overflow_add-m : goal.overflow_add-m
overflow_add-m c = omega (arith, and_le_r c.args.a 4503599627370495)

pub nearest_shift-requires-2 : goal.nearest_shift-requires-2
nearest_shift-requires-2 c = omega (arith, and_le_r c.args.a 4503599627370495)

pub returns : goal.returns
returns c =
    let a = c.args.a in
    subst (λ (r : ℕ). Narrows a r) (sym (c.nearest_shift-2.ensures ∙ ap (λ (x : ℕ). closest (x + 2 ^ 52) (2 ^ (926 - a / 2 ^ 52))) (and_mask a 52)))
    (at_low a c.if-a-lt3927138875067072512.false c.if-a-ge4039728865751334912.false)
