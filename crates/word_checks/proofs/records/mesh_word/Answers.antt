use Rattle.word_checks.proofs.Firsts.{before-all, before-leaves, none_left}
use Rattle.word_checks.specs.Words.{mesh_asked}
use Rattle.word_checks.proofs.records.mesh_word.Goals as goal

pub returns : goal.returns
unfolding mesh_asked
returns c =
    let none = none_left _ _ in
    let weights = before-leaves _ _ _ _ _ none _ _ _ c.fits.ensures c.leaves_word-from_weights.ensures in
    before-all _ _ _ _ _ weights _ c.part_word.ensures
