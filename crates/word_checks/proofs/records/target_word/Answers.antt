use Rattle.word_checks.proofs.Firsts.{before-all}
use Rattle.word_checks.specs.Words.{target_asked}
use Rattle.word_checks.proofs.records.target_word.Goals as goal

pub returns : goal.returns
unfolding target_asked
returns c =
    let between = c.part_word-from_in_betweens.ensures in
    let tangents = before-all _ _ _ _ _ between _ c.slot_word-from_tangents.ensures in
    let normals = before-all _ _ _ _ _ tangents _ c.slot_word-from_normals.ensures in
    before-all _ _ _ _ _ normals _ c.slot_word.ensures
