use Rattle.grammar.specs.Digits.{items_text}
use Rattle.spelling.specs.Pushed.{out_at}
use Rattle.spelling.proofs.Pushing.{Going}
use Rattle.spelling.proofs.put_items.Given as goal

abbrev pub invariant-loop-x : goal.invariant-loop-x
invariant-loop-x g l =
    Going (λ xs. items_text g.I.Item.sort (g.I.Item.words xs)) l.items (out_at l.initial.out l.at) (out_at l.out l.k)
    l.x-index
