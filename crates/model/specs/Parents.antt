-- The parent of every node by the rule of graph.rs (`parents`): roots are marked first, and a child when a node that is
-- taken lists it. It can differ from the placing. Definitions only.
use Rattle.std.specs.Prelude.{List, [], ◌∷◌, ℕ, zero, suc, ◌+◌, length, get_or, set, replicate, ltb}
use Rattle.std.proofs.Math.Option.{Option, none, some}
use Rattle.model.specs.Lists.{pick}
use Rattle.model.specs.Scene.{Scene, node_count, children_at}
use Rattle.model.specs.Placing.{Place, unplaced, root, below, free}

-- the ids still to take, the next one first, and the mark of each node
pub record Marking : Type 0 where
  pub waiting : List ℕ
  pub marks : List Place

-- a root is marked, whatever lists it; an id out of range changes nothing
unfoldable pub mark_roots : List ℕ → List Place → List Place
mark_roots [] marks = marks
mark_roots (r ∷ rs) marks = mark_roots rs (set marks r root)

-- p lists x: an unmarked node is marked, and taken later
unfoldable pub mark_one : ℕ → ℕ → Marking → Marking
mark_one p x m =
    pick (free m.marks x)
    (record { waiting = x ∷ m.waiting; marks = set m.marks x (below p) })
    m

-- all that p lists, the last first, so that the first is taken first
unfoldable pub mark_all : ℕ → List ℕ → Marking → Marking
mark_all p [] m = m
mark_all p (x ∷ xs) m = mark_one p x (mark_all p xs m)

-- take the id x; one that is out of range is dropped
unfoldable pub take_id : (ℕ → List ℕ) → ℕ → Marking → Marking
take_id children x m = pick (ltb x (length m.marks)) (mark_all x (children x) m) m

-- take ids until none is left; the first argument bounds how many
unfoldable pub explore : ℕ → (ℕ → List ℕ) → List ℕ → List Place → List Place
explore zero children waiting marks = marks
explore (suc k) children [] marks = marks
explore (suc k) children (x ∷ rest) marks =
    let m = take_id children x (record { waiting = rest; marks = marks }) in
    explore k children m.waiting m.marks

-- the marks of all nodes: each root and each node that is marked is taken once
unfoldable pub marks_of : Scene → List Place
marks_of s =
    explore (length s.roots + node_count s) (children_at s) s.roots
    (mark_roots s.roots (replicate (node_count s) unplaced))

abbrev pub parent_in : Place → Option ℕ
parent_in unplaced = none
parent_in root = none
parent_in (below p) = some p

abbrev pub parent_of : Scene → ℕ → Option ℕ
parent_of s i = parent_in (get_or (marks_of s) i unplaced)
