use mathlib.Core.Path.{sym, ap, ◌∙◌}
use mathlib.Core.List.{◌++◌}
use Prim.Native.Nat.{ℕ, ◌*◌}
use mathlib.Core.Option.{none}
use lib.ListN.{drop, replicate}
use Rattle.model.specs.Scene.{node_count}
use Rattle.model.specs.Placing.{order}
use Rattle.model.specs.World.{worlds_from}
use Rattle.placing.specs.Walk.{listing_in}
use Rattle.worlds.specs.Slots.{slots_of}
use Rattle.placing.proofs.Stepping.{node-count}
use Rattle.tables.specs.Decoded.{lent_of}
use Rattle.worlds.specs.Posed.{local_of}
use Rattle.worlds.proofs.Filled.{part_length, order-holds, all-worlds}
use Rattle.worlds.proofs.place_all.Goals as goal

pub slice_bounds-order-end : goal.slice_bounds-order-end
slice_bounds-order-end c = order-holds _ _ _ _ _ _ c.place-run.ensures

pub slice_bounds-write_worlds-end : goal.slice_bounds-write_worlds-end
slice_bounds-write_worlds-end c = sym (part_length _ _ _ _ _ _ c.place-run.ensures)

pub write_worlds-requires : goal.write_worlds-requires
write_worlds-requires c = c.requires.worlds

pub returns-clause-run : goal.returns-clause-run
returns-clause-run c =
    let a = c.args in
    let run = c.place-run.ensures in
    let w = c.write_worlds.ensures.worlds_alone in
    let room = a.room.now in
    let graph = a.lent.header.graph in
    let k = ap (λ (k : ℕ). k * 16) (node-count a.lent.words.now graph) in
    let local = local_of (lent_of a.lent) a.marks.now a.slots.now in
    record {
      walk = w.0 ∙ run.walk;
      codes = w.1 ∙ run.places;
      floats =
          w.2
          ∙ all-worlds _ _ _ _ _ _ run local (graph.nodes.count * 16) (drop (graph.nodes.count * 16) room.worlds.now) (sym k)
          ∙ ap (λ (d : ℕ). slots_of (worlds_from local (replicate (node_count (listing_in a.lent.words.now graph)) none) (order (listing_in a.lent.words.now graph))) ++ drop d room.worlds.now) (sym k);
      entries = run.entries;
    }
