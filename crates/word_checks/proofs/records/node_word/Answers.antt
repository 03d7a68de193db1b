use mathlib.Core.Path.{refl}
use Rattle.word_checks.proofs.Firsts.{before-all, before-over, before-leaves}
use Rattle.word_checks.specs.Words.{node_asked}
use Rattle.word_checks.proofs.records.node_word.Goals as goal

pub returns : goal.returns
unfolding node_asked
returns c =
    let held = c.held_word-from_weights.ensures in
    let skin = before-over _ _ _ _ _ held _ _ _ refl c.over_word-from_skin.ensures in
    let mesh = before-over _ _ _ _ _ skin _ _ _ refl c.over_word-from_mesh.ensures in
    let entries = before-over _ _ _ _ _ mesh _ _ _ refl c.over_word-from_entries.ensures in
    let children =
    before-leaves _ _ _ _ _ entries _ _ _ c.fits.ensures c.leaves_word-from_children.ensures in
    before-all _ _ _ _ _ children _ c.base_word.ensures
