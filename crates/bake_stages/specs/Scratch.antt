-- The scratch room (the scope's bench) of a bake: what must hold of it, and what an accepted call leaves there.
-- Definitions only.
use Rattle.std.specs.Prelude.{◌≡◌, false, List, ◌++◌, ℕ, ◌*◌, ◌≤◌, Float, length, drop, replicate}
use Rattle.std.specs.Float.Ieee.{is_nan}
use Rattle.borrowed.specs.Slices.{Words, Floats, Change}
use Rattle.model.specs.Limits.{channel_limit, node_limit}
use Rattle.model.specs.Scene.{node_count}
use Rattle.model.specs.Placing.{places, taken}
use Rattle.model.specs.World.{poses_of, worlds}
use Rattle.model.specs.Refusals as refusals
use Rattle.tables.specs.declared.Header.{Header}
use Rattle.tables.specs.Decoded.{Lent, scene_of}
use Rattle.tables.specs.Codes.{codes_of}
use Rattle.checks.specs.Drawn.{lent_as}
use Rattle.placing.specs.Walk.{listing_in, entries_of}
use Rattle.pose_slots.specs.Slots.{room}
use Rattle.pose.specs.Lines.{NoneDrawn, AllInLine}
use Rattle.pose.specs.Encoded.{encoded_words, encoded_floats}
use Rattle.worlds.specs.declared.Room.{Room}
use Rattle.worlds.specs.Slots.{slots_of}
use Rattle.worlds.specs.Placed.{scratch_of}

-- the five slices: pose slots (words and floats), walk room, world slots (codes of places, and matrices)
pub record Slices : Type 0 where
  pub marks : List ℕ
  pub slots : List Float
  pub walk : List ℕ
  pub places : List ℕ
  pub worlds : List Float

-- as a call that borrows them finds them, and as it leaves them
abbrev pub SlicesChange : Type 0
SlicesChange = Change Slices

abbrev pub scratch_room : Words → Floats → Words → Words → Floats → SlicesChange
scratch_room marks slots walk places worlds = record {
  from = record {
    marks = marks.entry.now;
    slots = slots.entry.now;
    walk = walk.entry.now;
    places = places.entry.now;
    worlds = worlds.entry.now;
  };
  to = record {
    marks = marks.exit.now;
    slots = slots.exit.now;
    walk = walk.exit.now;
    places = places.exit.now;
    worlds = worlds.exit.now;
  };
}

-- the same where walk room and world slots are lent as one
abbrev pub slices_in : List ℕ → List Float → Room → Slices
slices_in marks slots room =
    record { marks = marks; slots = slots; walk = room.walk.now; places = room.places.now; worlds = room.worlds.now }

abbrev pub scratch_lent : Words → Floats → Room → Room → SlicesChange
scratch_lent marks slots old new = record {
  from = slices_in marks.entry.now slots.entry.now old;
  to = slices_in marks.exit.now slots.exit.now new;
}

abbrev pub room_of : Slices → refusals.Scratch
room_of r = scratch_of r.walk r.marks r.slots r.places r.worlds

-- the pose and the place of every node, and its world, zeros where it has none; nothing waits in the walk room, and
-- past the nodes the slots are as lent
unfoldable pub scratch_left : Lent → Float → Slices → Slices
scratch_left l time lent =
    let s = scene_of l in
    record {
      marks = encoded_words time (node_count s) s.tracks lent.marks;
      slots = encoded_floats time (node_count s) s.tracks lent.slots;
      walk = replicate (length lent.walk) 0;
      places = codes_of (places s) ++ drop (node_count s) lent.places;
      worlds = slots_of (worlds (poses_of time s) s) ++ drop (node_count s * 16) lent.worlds;
    }

-- the entries taken are told; the weights of nodes and meshes do not matter
abbrev pub PosedAndPlaced : Lent → Float → SlicesChange → ℕ → Type 0
PosedAndPlaced l time c told =
    (own mesh : List Float)
    → (told ≡ taken (scene_of (lent_as l.words l.floats own mesh l.header)))
    × (c.to ≡ scratch_left (lent_as l.words l.floats own mesh l.header) time c.from)

-- what the stages ask of tables, time and room
pub record Ready (words : List ℕ) (floats : List Float) (h : Header) (time : Float) (r : Slices) : Type 0 where
  pub drawn : NoneDrawn words floats h.channels
  pub timed : is_nan time ≡ false
  pub lines : AllInLine words floats h.channels h.graph.nodes.count
  pub poses : h.graph.nodes.count ≤ room r.marks r.slots
  pub channels : h.channels.count ≤ channel_limit
  pub nodes : h.graph.nodes.count ≤ node_limit
  pub codes : h.graph.nodes.count ≤ length r.places
  pub walk : 2 * entries_of (listing_in words h.graph) ≤ length r.walk
  pub worlds : h.graph.nodes.count * 16 ≤ length r.worlds
