use Rattle.word_checks.proofs.Firsts.{before-all}
use Rattle.word_checks.specs.Words.{primitive_asked}
use Rattle.word_checks.proofs.records.primitive_word.Goals as goal

pub returns : goal.returns
unfolding primitive_asked
returns c =
    let targets = c.part_word-from_targets.ensures in
    let weights = before-all _ _ _ _ _ targets _ c.slot_word-from_weights.ensures in
    let joints = before-all _ _ _ _ _ weights _ c.slot_word-from_joints.ensures in
    let tangents = before-all _ _ _ _ _ joints _ c.slot_word-from_tangents.ensures in
    let normals = before-all _ _ _ _ _ tangents _ c.slot_word-from_normals.ensures in
    before-all _ _ _ _ _ normals _ c.part_word.ensures
