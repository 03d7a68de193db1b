use mathlib.Core.Path.{sym, ap, ◌∙◌}
use mathlib.Core.List.{List}
use mathlib.Core.Option.{Option}
use Prim.Native.Nat.{ℕ}
use lib.ListN.{length}
use Rattle.model.specs.Lists.{map_some}
use Rattle.model.specs.Matrix.{Matrix}
use Rattle.model.specs.Scene.{node_count}
use Rattle.model.specs.SkinCalls.{skin_palette}
use Rattle.tables.specs.Decoded.{scene_of}
use Rattle.tables.proofs.Decoding.{node-count}
use Rattle.checks.specs.Drawn.{lent_as}
use Rattle.worlds.specs.Slots.{world_in}
use Rattle.skin.proofs.Answering.{skin-past, skin-none, skin-named}
use Rattle.skin.proofs.calls.node_count.Goals as goal

abbrev counted : Option (List Matrix) → Option ℕ
counted p = map_some length p

pub returns-then-nodes-i : goal.returns-then-nodes-i
returns-then-nodes-i c =
    let a = c.args in
    record {
      count = λ n m slots.
          let l = lent_as a.lent.words.now a.lent.floats.now n m a.lent.header in
          let world = world_in (node_count (scene_of l)) a.places.now slots in
          sym (ap counted (skin-past l a.node world c.if-nodes-i.true));
    }

pub returns-then-row-eq0 : goal.returns-then-row-eq0
returns-then-row-eq0 c =
    let a = c.args in
    let r = c.node_row-row in
    record {
      count = λ n m slots.
          let l = lent_as a.lent.words.now a.lent.floats.now n m a.lent.header in
          let world = world_in (node_count (scene_of l)) a.places.now slots in
          sym (ap counted (skin-none l a.node world r.result r.ensures c.if-nodes-i.false c.if-row-eq0.true));
    }

pub returns : goal.returns
returns c =
    let a = c.args in
    let r = c.node_row-row in
    record {
      count = λ n m slots.
          let l = lent_as a.lent.words.now a.lent.floats.now n m a.lent.header in
          let world = world_in (node_count (scene_of l)) a.places.now slots in
          c.palette_count.ensures.count n m slots
          ∙ ap (λ (k : ℕ). counted (skin_palette (world_in k a.places.now slots) (scene_of l) r.result.skin.id)) (sym (node-count l))
          ∙ sym (ap counted (skin-named l a.node world r.result r.ensures c.if-nodes-i.false c.if-row-eq0.false));
    }
