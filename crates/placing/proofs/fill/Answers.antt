use mathlib.Core.Path.{ap, ◌∙◌, subst}
use mathlib.Core.List.{List}
use Prim.Native.Nat.{ℕ}
use native.Mathlib.Omega.{arith}
use Rattle.placing.specs.declared.Run.{Run}
use Rattle.placing.specs.Walk.{listing_in, Walked}
use Rattle.placing.specs.WalkRoom.{stack_change, places_change}
use Rattle.placing.proofs.Stepping.{node-count}
use Rattle.placing.proofs.Going.{roots-ready}
use Rattle.placing.proofs.Meaning.{walked_none, walked}
use Rattle.placing.proofs.fill.Goals as goal

pub returns-then-walk-eq0-clause-walked : goal.returns-then-walk-eq0-clause-walked
returns-then-walk-eq0-clause-walked c =
    let a = c.args in
    walked_none (listing_in a.l.words.now a.l.graph) a.walk.now.places.now (node-count _ _ ∙ c.requires.count_value)
    c.if-walk-eq0.true _ c.finish.ensures.1 _ _ _
    (ap (λ (r : Run). r.taken) c.finish.ensures.0) (ap (λ (r : Run). r.placed) c.finish.ensures.0)

pub start-top-requires : goal.start-top-requires
unfolding listing_in
start-top-requires c = omega (arith, c.requires.graph_in_bounds)

pub drain-requires : goal.drain-requires
drain-requires c =
    let a = c.args in
    let s = c.start-top.ensures in
    let p = roots-ready (listing_in a.l.words.now a.l.graph) _ _ _ s.started
    (node-count _ _ ∙ c.requires.count_value) c.start-top.new.walk.order.now
    (omega (arith, c.requires.count_value, c.requires.count_le_node_limit.0))
    (omega (arith, c.requires.count_value, c.requires.count_le_node_limit.1, s.same_lengths.order))
    (omega (arith, s.same_lengths.stack, c.requires.graph_in_bounds)) in
    record { ready = p.0; named = p.1 }

pub returns : goal.returns
returns c =
    let a = c.args in
    let s = c.start-top.ensures in
    let d = c.drain.ensures in
    let l = listing_in a.l.words.now a.l.graph in
    let old = a.walk.now in
    let new = c.drain.new.walk in
    record {
      walked =
          subst
          (λ (o : List ℕ). Walked l (stack_change old new) (places_change old new) (record { from = o; to = new.order.now })
          c.drain.result.taken c.drain.result.placed)
          s.order
          (walked l old.places.now (node-count _ _ ∙ c.requires.count_value)
          c.if-walk-eq0.false _ _ _ s.started s.same_lengths.stack _ _ _ _ _ _
          (omega (arith, c.requires.count_value, c.requires.count_le_node_limit.1, s.same_lengths.order)) d.drains);
      same_slices = record {
        stack = d.same_slices.stack ∙ s.same_slices.stack;
        places = d.same_slices.places ∙ s.same_slices.places;
        order = d.same_slices.order ∙ s.same_slices.order;
      };
    }
