-- The listing that the tables of nodes and roots say has the placing of the scene that all tables say. Assumes nothing.
use mathlib.Core.Path.{◌≡◌, refl, sym, ap, ◌∙◌}
use Prim.Native.Nat.{ℕ, zero, suc, ◌+◌, ◌<◌}
use native.Mathlib.Omega.{arith}
use lib.ListN.{length, replicate}
use Rattle.model.specs.Lists.{sum_of, tabulate}
use Rattle.model.specs.Scene.{Scene, Node}
use Rattle.model.specs.Placing.{unplaced, child_entries, order, places_from, places, taken}
use Rattle.model.specs.Agree.{SameListing}
use Rattle.model.proofs.Listing.{order-agree, taken-agree}
use Rattle.tables.specs.Records.{node_row}
use Rattle.tables.specs.Decoded.{Lent, children_in, node_of, scene_of}
use Rattle.tables.proofs.Decoding as decoding
use Rattle.placing.specs.Walk.{child_list, listing_in, entries_of}
use Rattle.placing.proofs.Stepping.{node-count, children-at}

-- child entries of two tables of nodes with the same child lists
same_entries : (n : ℕ) (f g : ℕ → Node) → ((i : ℕ) → (f i).children ≡ (g i).children)
    → sum_of (λ (m : Node). length m.children) (tabulate n f) ≡ sum_of (λ (m : Node). length m.children) (tabulate n g)
unfolding sum_of tabulate
same_entries zero f g h = refl
same_entries (suc n) f g h = λ j. length (h 0 j) + same_entries n (λ i. f (suc i)) (λ i. g (suc i)) (λ i. h (suc i)) j

module _ (l : Lent) where
  abbrev listing : Scene
  listing = listing_in l.words l.header.graph

  pub same-listing : SameListing listing (scene_of l)
  unfolding listing_in scene_of
  same-listing = record {
    count = node-count l.words l.header.graph ∙ sym (decoding.node-count l);
    roots = refl;
    lists = λ i b.
        let h : i < l.header.graph.nodes.count = omega (arith, node-count l.words l.header.graph) in
        children-at l.words l.header.graph i h ∙ sym (ap (λ (n : Node). n.children) (decoding.node-at l i h));
  }

  pub order-linked : order listing ≡ order (scene_of l)
  order-linked = order-agree listing (scene_of l) same-listing

  pub places-linked : places listing ≡ places (scene_of l)
  places-linked = λ j. places_from (replicate (same-listing.count j) unplaced) (order-linked j)

  pub taken-linked : taken listing ≡ taken (scene_of l)
  taken-linked = taken-agree listing (scene_of l) same-listing

  pub room-linked : entries_of listing ≡ length (scene_of l).roots + child_entries (scene_of l)
  unfolding listing_in scene_of
  room-linked = λ j. length (scene_of l).roots + same_entries l.header.graph.nodes.count (λ i. child_list (children_in l.words l.header.graph.nodes i)) (λ i. node_of l (node_row l.words l.header.graph.nodes i)) (λ i. refl) j
