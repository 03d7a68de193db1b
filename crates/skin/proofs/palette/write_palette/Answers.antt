use mathlib.Core.Path.{sym, ap, ◌∙◌}
use mathlib.Core.List.{List, []}
use mathlib.Core.Option.{Option}
use Rattle.model.specs.Lists.{or_else}
use Rattle.model.specs.Matrix.{Matrix}
use Rattle.checks.specs.Drawn.{lent_as}
use Rattle.worlds.specs.Slots.{world_in}
use Rattle.skin.specs.Palette.{laid_out}
use Rattle.skin.proofs.Binding.{none-bound, bound-to}
use Rattle.skin.proofs.Rows.{none-laid}
use Rattle.skin.proofs.palette.write_palette.Goals as goal

pub returns-in_default : goal.returns-in_default
returns-in_default c =
    let a = c.args in
    let b = c.skeleton_of in
    record {
      slice = λ n m.
          none-laid a.out.now
          ∙ ap (λ (p : Option (List Matrix)). laid_out (or_else p []) a.out.now)
          (sym (none-bound (lent_as a.lent.words.now a.lent.floats.now n m a.lent.header) a.skin (world_in a.lent.header.graph.nodes.count a.places.now a.worlds.now) b.result (b.ensures.skeleton _ n m) c.in_default.is));
    }

pub returns : goal.returns
returns c =
    let a = c.args in
    let b = c.skeleton_of in
    let js = c.words_in-joints in
    let bs = c.floats_in-binds in
    record {
      slice = λ n m.
          c.lay_out.ensures
          ∙ ap (λ (p : Option (List Matrix)). laid_out (or_else p []) a.out.now)
          (sym (bound-to (lent_as a.lent.words.now a.lent.floats.now n m a.lent.header) a.skin (world_in a.lent.header.graph.nodes.count a.places.now a.worlds.now) b.result (b.ensures.skeleton _ n m) c.in-Some.row c.in-Some.is _ js.ensures _ bs.ensures));
    }
