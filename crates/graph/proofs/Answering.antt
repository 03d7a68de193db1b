-- What `graph::parents` answers, by what the tables draw. Assumes nothing.
use mathlib.Core.Path.{◌≡◌, refl, sym, ap, ◌∙◌}
use mathlib.Core.Bool.{Bool, true, false}
use mathlib.Core.List.{List, [], ◌∷◌, ◌++◌}
use Prim.Native.Nat.{ℕ, ◌+◌, ◌≤◌, ◌<◌}
use native.Mathlib.Omega.{arith}
use borrow.Author.Tests.{ne_eqb, lt-ltb, le-ltb}
use lib.Dec.{ltb}
use lib.ListN.{length, take, drop, replicate}
use lib.Seq.{length-take-le}
use Rattle.model.specs.Lists.{pick}
use Rattle.model.specs.Scene.{Node, node_count, children_at}
use Rattle.model.specs.Placing.{unplaced}
use Rattle.model.specs.Parents.{mark_roots, explore, marks_of}
use Rattle.model.specs.Refusals.{number, short_output, first_of, lowest}
use Rattle.model.proofs.Numbers.{lowest-some}
use Rattle.tables.specs.Decoded.{Lent, span_in, scene_of}
use Rattle.tables.specs.Codes.{codes_of}
use Rattle.tables.proofs.Decoding.{node-count, node-at}
use Rattle.checks.specs.Drawn.{tables_number}
use Rattle.checks.proofs.Clearing.{checked}
use Rattle.graph.specs.Stack.{Marked}
use Rattle.graph.specs.Marks.{parents_number, Parents}

module _ (l : Lent) (lent : List ℕ) where
  pub refused : (r : ℕ) → r ≡ tables_number l → (r ≡ 0 → ⊥) → Parents l (record { from = lent; to = lent }) r
  refused r e d = record {
    number = lowest-some r _ d ∙ ap (λ (g : ℕ). lowest g (first_of (record { applies = ltb (length lent) (node_count (scene_of l)); refusal = short_output } ∷ []))) e;
    slots = ap (λ (b : Bool). pick b (codes_of (marks_of (scene_of l)) ++ drop (node_count (scene_of l)) lent) lent) (sym (ne_eqb r 0 d));
  }

  -- the tables draw nothing: 10 or 0, by the room
  judged : (b : Bool) → tables_number l ≡ 0 → ltb (length lent) (node_count (scene_of l)) ≡ b → pick b 10 0 ≡ parents_number l (length lent)
  unfolding first_of
  judged b z e = sym (λ i. lowest (z i) (pick (e i) 10 0))

  pub short : tables_number l ≡ 0 → length lent < l.header.graph.nodes.count
      → Parents l (record { from = lent; to = lent }) (number short_output)
  short z b = record { number = judged true z (lt-ltb (length lent) (node_count (scene_of l)) (omega (arith, node-count l))); slots = refl }

  -- the codes that the walk leaves are those of the scene
  marks-are : (n : ℕ) (left : List ℕ) → n ≡ l.header.graph.nodes.count → Marked l.words l.header.graph.nodes (span_in l.words l.header.graph.roots 1) n left → left ≡ codes_of (marks_of (scene_of l))
  unfolding marks_of scene_of
  marks-are n left e m =
      m.ends (children_at (scene_of l)) (λ i b. ap (λ (t : Node). t.children) (node-at l i (omega arith)))
      ∙ ap (λ (k : ℕ). codes_of (explore (length (scene_of l).roots + k) (children_at (scene_of l)) (scene_of l).roots (mark_roots (scene_of l).roots (replicate k unplaced)))) (e ∙ sym (node-count l))

  pub written : (left : List ℕ) → tables_number l ≡ 0 → l.header.graph.nodes.count ≤ length lent
      → Marked l.words l.header.graph.nodes (span_in l.words l.header.graph.roots 1) (length (take l.header.graph.nodes.count lent)) left
      → Parents l (record { from = lent; to = left ++ drop l.header.graph.nodes.count lent }) 0
  written left z b m = record {
    number = judged false z (le-ltb (length lent) (node_count (scene_of l)) (omega (arith, node-count l)));
    slots = (λ i. marks-are _ left (length-take-le _ lent b) m i ++ drop (sym (node-count l) i) lent);
  }

pub few : (l : Lent) → tables_number l ≡ 0 → (length (span_in l.words l.header.graph.roots 1) ≤ 1024) × (l.header.graph.nodes.count ≤ 1024)
unfolding scene_of
few l z = ((checked l z).few-roots, omega (arith, node-count l, (checked l z).few-nodes))
