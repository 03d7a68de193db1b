-- What the walk keeps: the ids that wait in an array, and the marks as codes. Definitions only.
use Rattle.std.specs.Prelude.{◌≡◌, List, [], ◌∷◌, ℕ, zero, suc, ◌+◌, ◌≤◌, ◌<◌, length, get_or, replicate}
use Rattle.borrowed.specs.Slices.{Words}
use Rattle.model.specs.Placing.{Place, unplaced}
use Rattle.model.specs.Parents.{Marking, mark_roots, explore}
use Rattle.tracks.specs.declared.Part.{Part}
use Rattle.tables.specs.Decoded.{children_in}
use Rattle.tables.specs.Codes.{codes_of}

-- the ids in the first n slots, the last one first
unfoldable pub top_of : List ℕ → ℕ → List ℕ
top_of ids zero = []
top_of ids (suc k) = get_or ids k 0 ∷ top_of ids k

-- how many nodes are not marked
unfoldable pub zeros : List ℕ → ℕ
zeros [] = 0
zeros (zero ∷ codes) = suc (zeros codes)
zeros (suc c ∷ codes) = zeros codes

-- array and codes hold a marking
pub record Holds (m : Marking) (ids : List ℕ) (top : ℕ) (codes : List ℕ) : Type 0 where
  pub waiting : m.waiting ≡ top_of ids top
  pub marks : codes ≡ codes_of m.marks

-- f is done to the marking that is held; ids that wait and nodes that are not marked are together as many as before
pub record Turned (f : Marking → Marking) (ids : List ℕ) (top : ℕ) (codes next_ids : List ℕ) (next : ℕ)
    (next_codes : List ℕ) : Type 0 where
  pub holds : (m : Marking) → Holds m ids top codes → Holds (f m) next_ids next next_codes
  pub pending : next + zeros next_codes ≡ top + zeros codes

-- in the slices that are borrowed
abbrev pub TurnedIn : (Marking → Marking) → Words → Words → ℕ → ℕ → Type 0
TurnedIn f ids marks top next =
    Turned f ids.entry.now top marks.entry.now ids.exit.now next marks.exit.now

-- the roots wait and are marked
pub record Rooted (roots codes ids : List ℕ) (top : ℕ) (next_codes : List ℕ) : Type 0 where
  pub holds : (marks : List Place) → codes ≡ codes_of marks
      → Holds (record { waiting = roots; marks = mark_roots roots marks }) ids top next_codes

-- the children of the first n nodes are those that the words say
abbrev pub Alike : List ℕ → Part → ℕ → (ℕ → List ℕ) → Type 0
Alike words nodes n children = (i : ℕ) → i < n → children i ≡ children_in words nodes i

-- `left` are the codes when all that is held has been taken; k bounds how many are taken
pub record Drained (words : List ℕ) (nodes : Part) (ids : List ℕ) (top : ℕ) (codes left : List ℕ) : Type 0 where
  pub ends : (children : ℕ → List ℕ) → Alike words nodes (length codes) children
      → (m : Marking) → Holds m ids top codes → (k : ℕ) → top + zeros codes ≤ k
      → left ≡ codes_of (explore k children m.waiting m.marks)

-- `left` are the codes of n nodes after the whole walk
pub record Marked (words : List ℕ) (nodes : Part) (roots : List ℕ) (n : ℕ) (left : List ℕ) : Type 0 where
  pub ends : (children : ℕ → List ℕ) → Alike words nodes n children
      → left ≡ codes_of (explore (length roots + n) children roots (mark_roots roots (replicate n unplaced)))
