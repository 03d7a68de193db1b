use mathlib.Core.Path.{refl, sym, ap, ◌∙◌}
use mathlib.Core.Option.{none, some}
use Prim.Native.Nat.{ℕ}
use lib.Dec.{ltb}
use Rattle.model.specs.Lists.{pick}
use Rattle.tables.specs.Decoded.{scene_of}
use Rattle.tables.proofs.Decoding.{node-count}
use Rattle.checks.specs.Drawn.{lent_as}
use Rattle.skin_roots.specs.Lines.{common_in}
use Rattle.skin_roots.proofs.Marked.{common-linked}
use Rattle.skin_roots.proofs.Rooting.{skin-past, root-named, skeleton-past, root-shared}
use Rattle.skin_roots.proofs.roots.root_of.Goals as goal

pub returns-then-skins-k : goal.returns-then-skins-k
returns-then-skins-k c =
    let a = c.args in
    record { root = λ f n m q. skin-past (lent_as a.words.now f n m a.h) _ c.if-skins-k.true }

pub returns-then-row-ne0 : goal.returns-then-row-ne0
returns-then-row-ne0 c =
    let a = c.args in
    let r = c.skin_row-row in
    record {
      root = λ f n m q.
          let l = lent_as a.words.now f n m a.h in
          c.in_range.ensures
          ∙ ap (λ (t : ℕ). pick (ltb r.result.root.id t) (some r.result.root.id) none) (c.requires.2 ∙ sym (node-count l))
          ∙ root-named l _ c.if-skins-k.false r.result r.ensures c.if-row-ne0.true;
    }

pub returns-then-skins-b : goal.returns-then-skins-b
returns-then-skins-b c =
    let a = c.args in
    let r = c.skin_row-row in
    record {
      root = λ f n m q.
          skeleton-past (lent_as a.words.now f n m a.h) _ c.if-skins-k.false r.result r.ensures c.if-row-ne0.false _ refl c.if-skins-b.true;
    }

pub common_root-requires : goal.common_root-requires
common_root-requires c = (c.requires.0, c.requires.1)

pub returns : goal.returns
returns c =
    let a = c.args in
    let r = c.skin_row-row in
    let b = c.skeleton_row-bones in
    record {
      root = λ f n m q.
          let l = lent_as a.words.now f n m a.h in
          c.common_root.ensures
          ∙ (λ i. common_in (q i) (c.words_in.ensures i))
          ∙ common-linked (scene_of l) _
          ∙ root-shared l _ c.if-skins-k.false r.result r.ensures c.if-row-ne0.false _ refl c.if-skins-b.false b.result b.ensures;
    }
