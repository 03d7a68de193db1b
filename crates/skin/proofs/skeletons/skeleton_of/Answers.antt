use mathlib.Core.Path.{refl}
use Rattle.checks.specs.Drawn.{lent_as}
use Rattle.skin.proofs.Binding.{skin-past, skeleton-past, skeleton-there}
use Rattle.skin.proofs.skeletons.skeleton_of.Goals as goal

pub returns-then-skins-k : goal.returns-then-skins-k
returns-then-skins-k c =
    let a = c.args in
    record { skeleton = λ f n m. skin-past (lent_as a.words.now f n m a.h) _ c.if-skins-k.true }

pub returns-then-skins-b : goal.returns-then-skins-b
returns-then-skins-b c =
    let a = c.args in
    record {
      skeleton = λ f n m.
          skeleton-past (lent_as a.words.now f n m a.h) _ c.if-skins-k.false _ c.skin_row-row.ensures _ refl c.if-skins-b.true;
    }

pub returns : goal.returns
returns c =
    let a = c.args in
    record {
      skeleton = λ f n m.
          skeleton-there (lent_as a.words.now f n m a.h) _ c.if-skins-k.false _ c.skin_row-row.ensures _ refl c.if-skins-b.false _ c.skeleton_row.ensures;
    }
