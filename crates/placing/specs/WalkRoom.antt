-- The run in lent room: the stack, two words an entry, and what is written so far. Definitions only.
use Rattle.std.specs.Prelude.{◌≡◌, List, [], ◌∷◌, ◌++◌, map, ℕ, zero, suc, ◌+◌, ◌-◌, ◌*◌, ◌≤◌, ◌<◌, eqb, length, get_or, set, replicate}
use Rattle.std.proofs.Math.Seq.{paste}
use Rattle.borrowed.specs.Slices.{Change}
use Rattle.model.specs.Limits.{node_limit}
use Rattle.model.specs.Lists.{pick}
use Rattle.model.specs.Scene.{Scene, Node, node_count, children_at}
use Rattle.placing.specs.declared.Run.{Run}
use Rattle.placing.specs.declared.Heights.{Heights}
use Rattle.placing.specs.declared.Walk.{Walk}
use Rattle.placing.specs.Walk.{Wiped}

-- an entry to take: an id, and the code of the place that it is listed for
pub record Item : Type 0 where
  pub id : ℕ
  pub code : ℕ

unfoldable pub listed_as : ℕ → List ℕ → List Item
listed_as c [] = []
listed_as c (x ∷ xs) = record { id = x; code = c } ∷ listed_as c xs

abbrev pub item_at : List ℕ → ℕ → Item
item_at walk k = record { id = get_or walk (2 * k) 0; code = get_or walk (2 * k + 1) 0 }

-- the stack of n entries that lies in the room, its top first
unfoldable pub stack_of : List ℕ → ℕ → List Item
stack_of walk zero = []
stack_of walk (suc k) = item_at walk k ∷ stack_of walk k

-- the words of a list that is pushed, the last first
unfoldable pub words_for : ℕ → List ℕ → List ℕ
words_for c [] = []
words_for c (x ∷ xs) = words_for c xs ++ (x ∷ c ∷ [])

-- of a number for each node, the sum over the nodes that are not placed
unfoldable pub waiting : List ℕ → List ℕ → ℕ
waiting [] places = 0
waiting (c ∷ cs) [] = 0
waiting (c ∷ cs) (zero ∷ ps) = c + waiting cs ps
waiting (c ∷ cs) (suc p ∷ ps) = waiting cs ps

abbrev pub child_counts : Scene → List ℕ
child_counts s = map (λ (n : Node). length n.children) s.nodes

-- the entries that are still to take at most: measure, room and bound of a run
abbrev pub pending : Scene → ℕ → List ℕ → ℕ
pending s top places = top + waiting (child_counts s) places

-- what is written so far: the code of each node's place, and the placed nodes
pub record Marks : Type 0 where
  pub places : List ℕ
  pub order : List ℕ
  pub placed : ℕ

pub record State : Type 0 where
  pub stack : List Item
  pub marks : Marks

abbrev pub marked : Item → Marks → Marks
marked e m = record {
  places = set m.places e.id e.code;
  order = set m.order m.placed e.id;
  placed = m.placed + 1;
}

-- An entry is taken: an unplaced node is placed, and its children come next; anything else is dropped. An id out of
-- range reads as placed.
unfoldable pub take_one : (ℕ → List ℕ) → Item → List Item → Marks → State
take_one children e rest m =
    pick (eqb (get_or m.places e.id 1) 0)
    (record { stack = listed_as (e.id + 3) (children e.id) ++ rest; marks = marked e m })
    (record { stack = rest; marks = m })

pub record Ended : Type 0 where
  pub marks : Marks
  pub taken : ℕ

-- entries are taken until none is left; the first argument bounds how many
unfoldable pub drained : ℕ → (ℕ → List ℕ) → List Item → Marks → ℕ → Ended
drained zero children stack m taken = record { marks = m; taken = taken }
drained (suc k) children [] m taken = record { marks = m; taken = taken }
drained (suc k) children (e ∷ rest) m taken =
    let s = take_one children e rest m in
    drained k children s.stack s.marks (taken + 1)

-- every entry is listed for a place
abbrev pub Named : List Item → Type 0
Named [] = Unit {0}
Named (e ∷ s) = (0 < e.code) × Named s

-- there is room for what is to come: the places are those of the nodes, at most 1,024, and no node is placed twice
pub record Ready (s : Scene) (walk places order : List ℕ) (top placed : ℕ) : Type 0 where
  pub nodes : node_count s ≡ length places
  pub few : length places ≤ node_limit
  pub room : 2 * pending s top places ≤ length walk
  pub left : placed + waiting (replicate (length places) 1) places ≤ length order

-- what a push leaves: the entries of the list from the top on, and the rest of the room as it was
pub record Pushed (ids : List ℕ) (code : ℕ) (room : Change (List ℕ)) (top top' : ℕ) : Type 0 where
  pub higher : top' ≡ top + length ids
  pub walk : room.to ≡ paste room.from (2 * top) (words_for code ids) (2 * length ids)
  pub stack : stack_of room.to top' ≡ listed_as code ids ++ stack_of room.from top

-- what the start leaves: no node is placed, and the roots are on the stack
pub record Started (s : Scene) (codes room : Change (List ℕ)) (top : ℕ) : Type 0 where
  pub places : Wiped codes
  pub higher : top ≡ length s.roots
  pub walk : room.to ≡ paste room.from 0 (words_for 1 s.roots) (2 * length s.roots)
  pub stack : stack_of room.to top ≡ listed_as 1 s.roots

-- what a step leaves
abbrev pub Stepped : Scene → List ℕ → ℕ → Marks → State → Type 0
Stepped s walk top m after = take_one (children_at s) (item_at walk (top - 1)) (stack_of walk (top - 1)) m ≡ after

-- what is written in the slices of a walk
abbrev pub marks_in : Walk → ℕ → Marks
marks_in walk placed = record { places = walk.places.now; order = walk.order.now; placed = placed }

-- the slices of a walk are those that they were
pub record SameSlices (old new : Walk) : Type 0 where
  pub stack : new.stack.ghost_name ≡ old.stack.ghost_name
  pub places : new.places.ghost_name ≡ old.places.ghost_name
  pub order : new.order.ghost_name ≡ old.order.ghost_name

-- and as long as they were
pub record SameLengths (old new : Walk) : Type 0 where
  pub stack : length new.stack.now ≡ length old.stack.now
  pub places : length new.places.now ≡ length old.places.now
  pub order : length new.order.now ≡ length old.order.now

-- what becomes of each slice
abbrev pub stack_change : Walk → Walk → Change (List ℕ)
stack_change old new = record { from = old.stack.now; to = new.stack.now }

abbrev pub places_change : Walk → Walk → Change (List ℕ)
places_change old new = record { from = old.places.now; to = new.places.now }

abbrev pub order_change : Walk → Walk → Change (List ℕ)
order_change old new = record { from = old.order.now; to = new.order.now }

-- a step in the slices of a walk
abbrev pub Steps : Scene → Walk → Walk → Heights → Heights → Type 0
Steps s old new h after =
    Stepped s old.stack.now h.top (marks_in old h.placed)
    (record { stack = stack_of new.stack.now after.top; marks = marks_in new after.placed })

-- what is left where the stack is empty: the walk room wiped, and what is written
pub record Drained (s : Scene) (room : Change (List ℕ)) (top : ℕ) (m : Marks) (after : Ended) : Type 0 where
  pub walk : Wiped room
  pub ended : drained (pending s top m.places) (children_at s) (stack_of room.from top) m 0 ≡ after

-- in the slices of a walk, where no node is placed before
abbrev pub Drains : Scene → Walk → Walk → ℕ → Run → Type 0
Drains s old new top run =
    Drained s (stack_change old new) top (marks_in old 0)
    (record { marks = marks_in new run.placed; taken = run.taken })
