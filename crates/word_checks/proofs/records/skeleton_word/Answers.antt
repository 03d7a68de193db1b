use Rattle.word_checks.proofs.Firsts.{before-all, before-leaves, none_left}
use Rattle.word_checks.specs.Words.{skeleton_asked}
use Rattle.word_checks.proofs.records.skeleton_word.Goals as goal

pub returns : goal.returns
unfolding skeleton_asked
returns c =
    let none = none_left _ _ in
    let binds = before-leaves _ _ _ _ _ none _ _ _ c.fits.ensures c.leaves_word-from_binds.ensures in
    before-all _ _ _ _ _ binds _ c.part_word.ensures
