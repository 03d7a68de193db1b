use mathlib.Core.Path.{sym, ap, ◌∙◌}
use native.Mathlib.Omega.{arith}
use Rattle.grammar.specs.Digits.{Sort}
use Rattle.brackets.specs.Read.{one_more}
use Rattle.brackets.proofs.ListLaws.{items-start, items-length, items-close, items_more}
use Rattle.brackets.proofs.ReadingLaws.{in-text, item-forth}
use Rattle.brackets.proofs.lists.other_items.Goals as goal

pub loop-x-init : goal.loop-x-init
loop-x-init g c = items-start (omega arith) (omega arith)

pub take-x-requires : goal.take-x-requires
take-x-requires g c = sym c.byte_at.ensures ∙ c.loop-x-test.true

pub loop-x-preserved : goal.loop-x-preserved
loop-x-preserved g c =
    items_more c.loop-x.invariant (sym c.byte_at.ensures ∙ c.loop-x-test.true)
    c.take-x.ensures c.store-k.ensures
    (c.one_more-t.ensures ∙ ap (λ (s : Sort). one_more s c.loop-x.t c.take-x.result.value) c.is_float-float.ensures)

pub loop-x-smaller : goal.loop-x-smaller
loop-x-smaller g c =
    let space = sym c.byte_at.ensures ∙ c.loop-x-test.true in
    omega (arith, in-text c.args.text.now c.loop-x.i space, item-forth space c.take-x.ensures)

pub shape_of-cells : goal.shape_of-cells
shape_of-cells g c = items-length c.loop-x.invariant

pub returns : goal.returns
returns g c =
    items-close c.loop-x.invariant (λ z. c.loop-x-test.false (c.byte_at.ensures ∙ z)) c.behind.ensures
    c.answer.ensures
