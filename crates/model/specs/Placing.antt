-- Where every node stands in the scene: scope, "Placed pieces" (`posed_node_transforms` of pose.rs). Depth first, roots
-- in order, children in order. The first arrival at a node that is in range places it; later arrivals and bad ids are
-- taken and dropped. Definitions only.
use Rattle.std.specs.Prelude.{List, [], ◌∷◌, ◌++◌, Bool, true, false, ℕ, zero, suc, ◌+◌, length, get_or, set, replicate}
use Rattle.model.specs.Lists.{foldl, pick, sum_of}
use Rattle.model.specs.Scene.{Scene, Node, node_count, children_at}

-- a node is not placed, placed as a root, or placed under another
pub data Place : Type 0 where
  unplaced : Place
  root : Place
  below : ℕ → Place

-- an entry of a list of roots or children: an id, and the place that it is listed for
pub record Entry : Type 0 where
  pub node : ℕ
  pub place : Place

unfoldable pub listed : Place → List ℕ → List Entry
listed p [] = []
listed p (x ∷ xs) = record { node = x; place = p } ∷ listed p xs

abbrev pub is_free : Place → Bool
is_free unplaced = true
is_free root = false
is_free (below p) = false

-- whether an arrival at i places it: an id out of range reads as one that is placed
abbrev pub free : List Place → ℕ → Bool
free places i = is_free (get_or places i root)

-- an entry that was taken, and whether it placed its node
pub record Taken : Type 0 where
  pub entry : Entry
  pub placed : Bool

-- Entries are taken, the next one first, until none is left; the children of a node that is placed come next. The first
-- argument bounds how many are taken.
unfoldable pub walk : ℕ → (ℕ → List ℕ) → List Entry → List Place → List Taken
walk zero children waiting places = []
walk (suc k) children [] places = []
walk (suc k) children (e ∷ rest) places =
    let b = free places e.node in
    record { entry = e; placed = b }
    ∷ walk k children (pick b (listed (below e.node) (children e.node) ++ rest) rest)
    (pick b (set places e.node e.place) places)

-- the entries that placed a node, in order
unfoldable pub placed_of : List Taken → List Entry
placed_of [] = []
placed_of (t ∷ ts) = pick t.placed (t.entry ∷ placed_of ts) (placed_of ts)

-- all that is taken from a listing, given where each node stands at the start; where there are no nodes, nothing is
-- taken
unfoldable pub trace : List Place → List ℕ → (ℕ → List ℕ) → ℕ → List Taken
trace [] roots children total = []
trace (p ∷ ps) roots children total = walk (length roots + total) children (listed root roots) (p ∷ ps)

abbrev pub start : Scene → List Place
start s = replicate (node_count s) unplaced

abbrev pub child_entries : Scene → ℕ
child_entries s = sum_of (λ (n : Node). length n.children) s.nodes

-- the order of placing
unfoldable pub order : Scene → List Entry
order s = placed_of (trace (start s) s.roots (children_at s) (child_entries s))

-- under what each node is placed
abbrev pub places_from : List Place → List Entry → List Place
places_from ps es = foldl (λ (qs : List Place) (e : Entry). set qs e.node e.place) ps es

abbrev pub places : Scene → List Place
places s = places_from (start s) (order s)

-- roots and the child entries of placed nodes, or 0 where there are no nodes
abbrev pub taken_from : ℕ → List ℕ → (ℕ → List ℕ) → List Entry → ℕ
taken_from zero roots children es = 0
taken_from (suc n) roots children es = length roots + sum_of (λ (e : Entry). length (children e.node)) es

unfoldable pub taken : Scene → ℕ
taken s = taken_from (node_count s) s.roots (children_at s) (order s)
