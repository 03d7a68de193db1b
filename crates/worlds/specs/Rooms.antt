-- The room that a placing is lent: whether it is too small for a listing, by the counts of its tables, and what a call
-- leaves in it. Definitions only.
use Rattle.std.specs.Prelude.{◌≡◌, Bool, ◌||◌, List, ℕ, ◌+◌, ◌*◌, ◌≤◌, ltb, Float, length}
use Rattle.borrowed.specs.Slices.{Change}
use Rattle.model.specs.Limits.{node_limit}
use Rattle.model.specs.Refusals.{Scratch}
use Rattle.tables.specs.declared.Graph.{Graph}
use Rattle.checks.specs.Drawn.{capped_entries}
use Rattle.placing.specs.Walk.{listing_in, entries_of}
use Rattle.worlds.specs.declared.Room.{Room}
use Rattle.worlds.specs.declared.Space.{Space}

-- so many child entries: walk room below roots and child entries, or fewer pose or world slots than nodes (scope,
-- "Numbers when a piece is turned down", 6)
abbrev pub short_for : ℕ → Graph → ℕ → ℕ → ℕ → Bool
short_for children graph walk poses worlds =
    ltb walk (graph.roots.count + children) || ltb poses graph.nodes.count || ltb worlds graph.nodes.count

-- with the child entries of the tables; where these draw no number they are those of the scene
-- (proofs/Answering.antt `short-is`)
abbrev pub short_in : List ℕ → Graph → ℕ → ℕ → ℕ → Bool
short_in words graph walk poses worlds = short_for (capped_entries words graph.nodes) graph walk poses worlds

abbrev pub scratch_in : Space → Scratch
scratch_in s = record { walk_room = s.walk; pose_slots = s.poses; world_slots = s.worlds }

-- room for the listing of the tables
pub record RoomFor (words : List ℕ) (graph : Graph) (r : Room) : Type 0 where
  pub few : graph.nodes.count ≤ node_limit
  pub codes : graph.nodes.count ≤ length r.places.now
  pub walk : 2 * entries_of (listing_in words graph) ≤ length r.walk.now
  pub worlds : graph.nodes.count * 16 ≤ length r.worlds.now

-- the room holds the slices that it held
abbrev pub SameRoom : Room → Room → Type 0
SameRoom old new =
    (new.walk.ghost_name ≡ old.walk.ghost_name) × (new.places.ghost_name ≡ old.places.ghost_name)
    × (new.worlds.ghost_name ≡ old.worlds.ghost_name)

-- what a call changes in each
abbrev pub walk_of : Room → Room → Change (List ℕ)
walk_of old new = record { from = old.walk.now; to = new.walk.now }

abbrev pub places_of : Room → Room → Change (List ℕ)
places_of old new = record { from = old.places.now; to = new.places.now }

abbrev pub worlds_of : Room → Room → Change (List Float)
worlds_of old new = record { from = old.worlds.now; to = new.worlds.now }

-- the worlds are these, and nothing else is changed
abbrev pub WorldsAlone : Room → Room → List Float → Type 0
WorldsAlone old new worlds =
    (new.walk.now ≡ old.walk.now) × (new.places.now ≡ old.places.now) × (new.worlds.now ≡ worlds)
