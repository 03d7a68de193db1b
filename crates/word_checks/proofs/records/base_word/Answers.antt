use mathlib.Core.Path.{refl, ap, ◌∙◌}
use Prim.Native.Nat.{ℕ}
use Rattle.row_checks.specs.Places.{fits_in}
use Rattle.refusals.specs.Drawn.{number_of}
use Rattle.word_checks.specs.Words.{word_drawn}
use Rattle.word_checks.proofs.Firsts.{before-over, before-leaves, none_left}
use Rattle.word_checks.proofs.records.base_word.Goals as goal

pub returns : goal.returns
returns c =
    let a = c.args in
    let none = none_left (number_of a.n) (word_drawn a.n a.rest) in
    let fits = c.fits.ensures
    ∙ ap (λ (n : ℕ). fits_in (record { at = a.r.base; count = n }) 1 a.s.floats)
    c.base_floats.ensures in
    let place = before-leaves _ _ _ _ _ none _ _ _ fits c.leaves_word-from_place.ensures in
    before-over _ _ _ _ _ place _ _ _ refl c.over_word.ensures
