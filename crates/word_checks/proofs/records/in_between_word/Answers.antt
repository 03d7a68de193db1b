use Rattle.word_checks.proofs.Firsts.{before-all, before-leaves}
use Rattle.word_checks.specs.Words.{in_between_asked}
use Rattle.word_checks.proofs.records.in_between_word.Goals as goal

pub returns : goal.returns
unfolding in_between_asked
returns c =
    let normals = c.slot_word-from_normals.ensures in
    let positions = before-all _ _ _ _ _ normals _ c.slot_word-from_positions.ensures in
    before-leaves _ _ _ _ _ positions _ _ _ c.fits.ensures c.leaves_word.ensures
