-- What `placing::step` reads and writes, and what it leaves. Assumes nothing.
use mathlib.Core.Path.{◌≡◌, refl, sym, ap, ◌∙◌}
use mathlib.Core.List.{List, ◌++◌}
use Prim.Native.Nat.{ℕ, ◌+◌, ◌-◌, ◌*◌, ◌≤◌, ◌<◌}
use native.Mathlib.Omega.{arith}
use lib.ListN.{length, get_or}
use Rattle.model.specs.Scene.{Scene, Node, blank, node_count, children_at}
use Rattle.model.proofs.ListLaws.{length-tabulate, get_d_tabulate, same-entry}
use Rattle.tables.specs.declared.Graph.{Graph}
use Rattle.tables.specs.Decoded.{children_in}
use Rattle.placing.specs.Walk.{listing_in}
use Rattle.placing.specs.WalkRoom.{listed_as, item_at, stack_of, child_counts, Marks, marked, Ready, Pushed, Stepped}
use Rattle.placing.proofs.Unplaced.{waiting-one, free_one}
use Rattle.placing.proofs.Taking.{is-placed, is-dropped, count_at, counts-length}

module _ (words : List ℕ) (graph : Graph) where
  pub node-count : node_count (listing_in words graph) ≡ graph.nodes.count
  unfolding listing_in
  node-count = length-tabulate _ _

  pub children-at : (i : ℕ) → i < graph.nodes.count → children_at (listing_in words graph) i ≡ children_in words graph.nodes i
  unfolding listing_in
  children-at i h = ap (λ (n : Node). n.children) (get_d_tabulate _ _ i blank h)

module _ (words : List ℕ) (graph : Graph) (walk places order : List ℕ) (top placed : ℕ) (r : Ready (listing_in words graph) walk places order top placed) (p : 0 < top)
    (b : get_or walk (2 * (top - 1)) 0 < length places) (z : get_or places (get_or walk (2 * (top - 1)) 0) 0 ≡ 0) where
  abbrev scene : Scene
  scene = listing_in words graph

  abbrev i : ℕ
  i = get_or walk (2 * (top - 1)) 0

  abbrev children : List ℕ
  children = children_in words graph.nodes i

  abbrev m : Marks
  m = record { places = places; order = order; placed = placed }

  free : get_or places i 1 ≡ 0
  free = same-entry places i 1 0 b ∙ z

  its-children : children_at scene i ≡ children
  its-children = children-at words graph i (omega (arith, node-count words graph, r.nodes))

  pub few-placed : placed < length order
  few-placed = omega (arith, free_one (length places) places i refl free, r.left)

  pub room_for : (list : List ℕ) → list ≡ children → 2 * (top - 1 + length list) ≤ length walk
  room_for list e =
      omega (
        arith,
        ap length e,
        ap length its-children,
        count_at scene i,
        waiting-one (child_counts scene) places i (counts-length scene ∙ r.nodes) free,
        r.room,
      )

  -- the node is placed
  pub stepped : (list left : List ℕ) (top' : ℕ) → list ≡ children
      → Pushed list (i + 3) (record { from = walk; to = left }) (top - 1) top'
      → Stepped scene walk top m (record { stack = stack_of left top'; marks = marked (item_at walk (top - 1)) m })
  stepped list left top' l q =
      is-placed (children_at scene) (item_at walk (top - 1)) (stack_of walk (top - 1)) m free
      ∙ (λ j. record {
        stack = (ap (λ (x : List ℕ). listed_as (i + 3) x ++ stack_of walk (top - 1)) (its-children ∙ sym l) ∙ sym q.stack) j;
        marks = marked (item_at walk (top - 1)) m;
      })

-- the entry is dropped
pub passed : (s : Scene) (walk : List ℕ) (top : ℕ) (m : Marks) → (get_or m.places (get_or walk (2 * (top - 1)) 0) 1 ≡ 0 → ⊥)
    → Stepped s walk top m (record { stack = stack_of walk (top - 1); marks = m })
passed s walk top m h = is-dropped (children_at s) (item_at walk (top - 1)) (stack_of walk (top - 1)) m h
