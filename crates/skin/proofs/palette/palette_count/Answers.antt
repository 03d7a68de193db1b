use mathlib.Core.Path.{sym, ap, ◌∙◌}
use mathlib.Core.List.{List}
use mathlib.Core.Option.{Option, some}
use Prim.Native.Nat.{ℕ}
use lib.ListN.{length}
use Rattle.model.specs.Lists.{map_some}
use Rattle.model.specs.Matrix.{Matrix}
use Rattle.checks.specs.Drawn.{lent_as}
use Rattle.worlds.specs.Slots.{world_in}
use Rattle.skin.proofs.Binding.{none-bound, bound-to}
use Rattle.skin.proofs.Palettes.{no-palette, palette-is, counted}
use Rattle.skin.proofs.Rows.{palette-length}
use Rattle.skin.proofs.palette.palette_count.Goals as goal

abbrev length_of : Option (List Matrix) → Option ℕ
length_of p = map_some length p

pub returns-in_default : goal.returns-in_default
returns-in_default c =
    let a = c.args in
    let b = c.skeleton_of in
    counted _ _ _ _ _ _ (λ n m slots. sym (ap length_of (none-bound (lent_as a.lent.words.now a.lent.floats.now n m a.lent.header) a.skin (world_in a.lent.header.graph.nodes.count a.places.now slots) b.result (b.ensures.skeleton _ n m) c.in_default.is)))

pub returns-then-is_whole : goal.returns-then-is_whole
returns-then-is_whole c =
    let a = c.args in
    let b = c.skeleton_of in
    let js = c.words_in-joints in
    let bs = c.floats_in-binds in
    let w = c.is_whole in
    counted _ _ _ _ _ _ (
    λ n m slots.
    let p = palette-is a.lent.header.graph.nodes.count a.places.now slots _ _ (sym (w.ensures slots) ∙ c.if-is_whole.true) in
    ap some (sym (palette-length _ _ slots))
    ∙ sym (ap length_of (bound-to (lent_as a.lent.words.now a.lent.floats.now n m a.lent.header) a.skin (world_in a.lent.header.graph.nodes.count a.places.now slots) b.result (b.ensures.skeleton _ n m) c.in-Some.row c.in-Some.is _ js.ensures _ bs.ensures ∙ p))
    )

pub returns : goal.returns
returns c =
    let a = c.args in
    let b = c.skeleton_of in
    let js = c.words_in-joints in
    let bs = c.floats_in-binds in
    let w = c.is_whole in
    counted _ _ _ _ _ _ (
    λ n m slots.
    sym (ap length_of (bound-to (lent_as a.lent.words.now a.lent.floats.now n m a.lent.header) a.skin (world_in a.lent.header.graph.nodes.count a.places.now slots) b.result (b.ensures.skeleton _ n m) c.in-Some.row c.in-Some.is _ js.ensures _ bs.ensures
    ∙ no-palette _ (sym (w.ensures slots) ∙ c.if-is_whole.false)))
    )
