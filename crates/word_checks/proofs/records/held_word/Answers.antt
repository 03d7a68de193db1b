use mathlib.Core.Path.{refl, ◌∙◌, ap}
use Rattle.tables.proofs.Naming.{is-there, not_there}
use Rattle.word_checks.proofs.Firsts.{before-over, before-leaves, none_left}
use Rattle.refusals.specs.Drawn.{number_of}
use Rattle.word_checks.specs.Words.{nothing, held_asked, first_asked}
use Rattle.word_checks.proofs.records.held_word.Goals as goal

pub returns-then-weights-eq0 : goal.returns-then-weights-eq0
unfolding held_asked
returns-then-weights-eq0 c =
    let a = c.args in
    none_left (number_of a.n) _
    ∙ ap (λ l. first_asked (number_of a.n) l nothing) (not_there _ _ _ c.if-weights-eq0.true)

pub returns : goal.returns
unfolding held_asked
returns c =
    let a = c.args in
    let none = none_left (number_of a.n) _ in
    let place = before-leaves _ _ _ _ _ none _ _ _ c.fits.ensures c.leaves_word-from_place.ensures in
    before-over _ _ _ _ _ place _ _ _ refl c.over_word.ensures
    ∙ ap (λ l. first_asked (number_of a.n) l nothing) (is-there _ _ _ c.if-weights-eq0.false)
