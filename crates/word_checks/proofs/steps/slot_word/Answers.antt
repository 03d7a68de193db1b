use mathlib.Core.Path.{refl, ◌∙◌, ap}
use Rattle.tables.proofs.Naming.{is-there, not_there}
use Rattle.word_checks.proofs.Firsts.{before-over}
use Rattle.refusals.specs.Drawn.{number_of}
use Rattle.word_checks.specs.Words.{word_drawn, slot_asked, first_asked}
use Rattle.word_checks.proofs.steps.slot_word.Goals as goal

pub returns-then-s-eq0 : goal.returns-then-s-eq0
unfolding slot_asked first_asked
returns-then-s-eq0 c =
    let a = c.args in
    ap (λ l. first_asked (number_of a.n) l (word_drawn a.n a.rest)) (not_there _ _ _ c.if-s-eq0.true)

pub returns : goal.returns
unfolding slot_asked
returns c =
    let a = c.args in
    before-over _ _ _ _ _ c.part_word-from_part.ensures _ _ _ refl c.over_word.ensures
    ∙ ap (λ l. first_asked (number_of a.n) l (word_drawn a.n a.rest)) (is-there _ _ _ c.if-s-eq0.false)
