use mathlib.Core.Path.{refl, sym, ap, ◌∙◌}
use mathlib.Core.List.{◌∷◌}
use native.Mathlib.Omega.{arith}
use Rattle.grammar.specs.Digits.{digits_of, items_text}
use Rattle.spelling.specs.Pushed.{out_at}
use Rattle.spelling.proofs.Pushing.{items-parts, going-length, going_more, going_done, put-past}
use Rattle.spelling.proofs.put_items.Goals as goal

pub loop-x-init : goal.loop-x-init
loop-x-init g c = refl

pub loop-x-preserved : goal.loop-x-preserved
loop-x-preserved g c =
    let i = g.I.Item in
    let parts = items-parts i.sort i.words i.word_of g.met.I.Item.none g.met.I.Item.more in
    going_more parts _ _ _ _ _ _ c.loop-x.invariant c.loop-x-test.true
    ((λ j. 32 ∷ digits_of (c.is_float-float.ensures j) (c.word.ensures j))
    ∙ ap (λ (x : g.row.I.Denot). 32 ∷ digits_of i.sort (i.word_of x)) c.x-item.is)
    c.put_item-k.ensures

pub shape_of-out : goal.shape_of-out
shape_of-out g c = going-length _ _ _ _ c.loop-x.invariant

pub returns-then-out-at : goal.returns-then-out-at
returns-then-out-at g c =
    let a = c.args in
    let i = g.I.Item in
    sym (put-past (items_text i.sort (i.words a.items.now)) a.out.now a.at c.if-out-at.true (omega arith)
    ∙ ap (out_at a.out.now) (sym c.behind.ensures))

pub returns : goal.returns
returns g c =
    let i = g.I.Item in
    let parts = items-parts i.sort i.words i.word_of g.met.I.Item.none g.met.I.Item.more in
    going_done parts _ _ _ _ c.loop-x.invariant c.loop-x-test.false
