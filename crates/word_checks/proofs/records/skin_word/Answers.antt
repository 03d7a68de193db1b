use mathlib.Core.Path.{refl}
use Rattle.word_checks.proofs.Firsts.{before-over, none_left}
use Rattle.word_checks.specs.Words.{skin_asked}
use Rattle.word_checks.proofs.records.skin_word.Goals as goal

pub returns : goal.returns
unfolding skin_asked
returns c = before-over _ _ _ _ _ (none_left _ _) _ _ _ refl c.over_word.ensures
