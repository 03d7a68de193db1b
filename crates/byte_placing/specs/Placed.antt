-- A placing whose results are bytes: what it answers and leaves. Definitions only.
use Rattle.std.specs.Prelude.{◌≡◌, List, ◌++◌, ℕ, ◌*◌, ◌/◌, min, eqb, Float, length, take, drop, replicate}
use Rattle.borrowed.specs.Slices.{Words, Floats, Change}
use Rattle.model.specs.Lists.{pick}
use Rattle.model.specs.Scene.{node_count}
use Rattle.model.specs.Placing.{places, taken}
use Rattle.model.specs.World.{worlds}
use Rattle.model.specs.Refusals.{Scratch}
use Rattle.wire.specs.Bytes.{bytes_of_words, bytes_of}
use Rattle.tables.specs.Decoded.{Lent, scene_of}
use Rattle.tables.specs.Codes.{codes_of}
use Rattle.pose_slots.specs.Slots.{room}
use Rattle.worlds.specs.declared.Answer.{Answer}
use Rattle.worlds.specs.Slots.{slots_of}
use Rattle.worlds.specs.Placed.{poses_in}
use Rattle.byte_checks.specs.Numbers.{place_in}

-- the room that a placing changes: walk room and world slots (codes of places, and matrices), and the slots once more
-- in bytes
pub record Room : Type 0 where
  pub walk : List ℕ
  pub codes : List ℕ
  pub matrices : List Float
  pub places : List ℕ
  pub worlds : List ℕ

abbrev pub placing_room : Words → Words → Floats → Words → Words → Change Room
placing_room walk codes matrices places worlds = record {
  from = record {
    walk = walk.entry.now;
    codes = codes.entry.now;
    matrices = matrices.entry.now;
    places = places.entry.now;
    worlds = worlds.entry.now;
  };
  to = record {
    walk = walk.exit.now;
    codes = codes.exit.now;
    matrices = matrices.exit.now;
    places = places.exit.now;
    worlds = worlds.exit.now;
  };
}

-- there are as many world slots as both the numbers and the bytes have
abbrev pub scratch_in : List ℕ → List Float → Room → Scratch
scratch_in marks slots r = record {
  walk_room = length r.walk / 2;
  pose_slots = room marks slots;
  world_slots =
      min (min (length r.codes) (length r.places / 4))
      (min (length r.matrices) (length r.worlds / 4) / 16);
}

-- the walk room is wiped; every node has the code of its place and its world, and past the nodes the slots are as lent
unfoldable pub placed_to : Lent → List ℕ → List Float → Room → Room
placed_to l marks slots r =
    let s = scene_of l in
    let n = node_count s in
    let matrices = slots_of (worlds (poses_in marks slots n) s) in
    record {
      walk = replicate (length r.walk) 0;
      codes = codes_of (places s) ++ drop n r.codes;
      matrices = matrices ++ drop (n * 16) r.matrices;
      places = bytes_of_words (codes_of (places s)) ++ drop (4 * n) r.places;
      worlds = bytes_of matrices ++ drop (4 * (n * 16)) r.worlds;
    }

-- the number, and the entries taken or 0; refused, nothing is changed. What the decoding room draws (0 or 6) is given
pub record PlacedIn (drawn : ℕ) (l : Lent) (marks : List ℕ) (slots : List Float) (c : Change Room)
    (a : Answer) : Type 0 where
  pub number : a.number ≡ place_in drawn l (scratch_in marks slots c.from)
  pub entries : a.taken ≡ pick (eqb a.number 0) (taken (scene_of l)) 0
  pub slices : c.to ≡ pick (eqb a.number 0) (placed_to l marks slots c.from) c.from

-- n codes and n matrices at the start of bytes
pub record WrittenBack (n : ℕ) (codes : List ℕ) (matrices : List Float)
    (lent_places left_places lent_worlds left_worlds : List ℕ) : Type 0 where
  pub places : left_places ≡ bytes_of_words (take n codes) ++ drop (4 * n) lent_places
  pub worlds : left_worlds ≡ bytes_of (take (n * 16) matrices) ++ drop (4 * (n * 16)) lent_worlds
