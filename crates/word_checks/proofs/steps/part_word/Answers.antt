use Rattle.word_checks.proofs.Firsts.{before-leaves}
use Rattle.word_checks.proofs.steps.part_word.Goals as goal

pub returns : goal.returns
returns c =
    before-leaves _ _ _ _ _ c.over_word-from_count.ensures _ _ _
    c.fits.ensures c.leaves_word.ensures
