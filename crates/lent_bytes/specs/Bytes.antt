-- A scene that is lent in bytes, and the room that it is decoded into. Definitions only.
use Rattle.std.specs.Prelude.{◌||◌, List, ◌++◌, ℕ, ◌+◌, ◌-◌, ◌/◌, ◌≤◌, ltb, Float, length, take, drop}
use Rattle.borrowed.specs.Slices.{SharedWords, Words, Floats, Change}
use Rattle.model.specs.Lists.{pick, part}
use Rattle.model.specs.Refusals.{number, short_scratch}
use Rattle.wire.specs.Bytes.{words_in, floats_in}
use Rattle.tables.specs.declared.Header.{Header}
use Rattle.tables.specs.Decoded.{Lent}
use Rattle.checks.specs.Drawn.{lent_as}
use Rattle.lent_bytes.specs.declared.Ends.{Ends}
use Rattle.lent_bytes.specs.declared.LentBytes as code

-- ---- the scene

abbrev pub lent_in : List ℕ → List ℕ → List ℕ → List ℕ → Header → Lent
lent_in words floats node_weights mesh_weights h =
    lent_as (words_in words) (floats_in floats) (floats_in node_weights) (floats_in mesh_weights) h

-- of the slices that a call borrows
abbrev pub lent_of_bytes : code.LentBytes → Lent
lent_of_bytes l = lent_in l.words.now l.floats.now l.node_weights.now l.mesh_weights.now l.header

abbrev pub bytes_lent : SharedWords → SharedWords → SharedWords → SharedWords → Header → Lent
bytes_lent words floats node_weights mesh_weights h =
    lent_in words.entry.now floats.entry.now node_weights.entry.now mesh_weights.entry.now h

-- ---- the decoding room, a part of the scratch room (the scope's bench): the words, and the floats of all slices one
-- after the other

pub record Decoding : Type 0 where
  pub words : List ℕ
  pub floats : List Float

abbrev pub decoding_room : Words → Floats → Change Decoding
decoding_room words floats = record {
  from = record { words = words.entry.now; floats = floats.entry.now };
  to = record { words = words.exit.now; floats = floats.exit.now };
}

-- a slice that starts with these entries, and is as lent past them
abbrev pub starting_with : {A : Type 0} → List A → List A → List A
starting_with entries lent = entries ++ drop (length entries) lent

-- entries put into a slice from place `at` on
abbrev pub putting_at : {A : Type 0} → ℕ → List A → List A → List A
putting_at at entries lent = take at lent ++ entries ++ drop (at + length entries) lent

-- 6 where it has room for fewer words or floats than are to be decoded
abbrev pub room_number : ℕ → ℕ → Decoding → ℕ
room_number words floats d =
    pick (ltb (length d.words) words || ltb (length d.floats) floats) (number short_scratch) 0

-- three slices of floats, one after the other
abbrev pub floats_of : List ℕ → List ℕ → List ℕ → List Float
floats_of a b c = floats_in a ++ floats_in b ++ floats_in c

abbrev pub count_of : List ℕ → List ℕ → List ℕ → ℕ
count_of a b c = length a / 4 + length b / 4 + length c / 4

-- n entries at the start of a slice that has room for them, which otherwise stays as lent
abbrev pub where_room : {A : Type 0} → ℕ → List A → List A → List A
where_room n entries lent = pick (ltb (length lent) n) lent (starting_with entries lent)

-- ---- the four slices of a scene, and their decoding

pub record SceneBytes : Type 0 where
  pub words : List ℕ
  pub floats : List ℕ
  pub node_weights : List ℕ
  pub mesh_weights : List ℕ

abbrev pub slices_of : code.LentBytes → SceneBytes
slices_of l = record {
  words = l.words.now;
  floats = l.floats.now;
  node_weights = l.node_weights.now;
  mesh_weights = l.mesh_weights.now;
}

abbrev pub scene_bytes : SharedWords → SharedWords → SharedWords → SharedWords → SceneBytes
scene_bytes words floats node_weights mesh_weights = record {
  words = words.entry.now;
  floats = floats.entry.now;
  node_weights = node_weights.entry.now;
  mesh_weights = mesh_weights.entry.now;
}

abbrev pub lent_by : SceneBytes → Header → Lent
lent_by b h = lent_in b.words b.floats b.node_weights b.mesh_weights h

-- what the decoding room draws
abbrev pub drawn_by : SceneBytes → Decoding → ℕ
drawn_by b d = room_number (length b.words / 4) (count_of b.floats b.node_weights b.mesh_weights) d

-- what it holds once the scene is decoded
abbrev pub decoded_to : SceneBytes → Decoding → Decoding
decoded_to b d = record {
  words = starting_with (words_in b.words) d.words;
  floats = starting_with (floats_of b.floats b.node_weights b.mesh_weights) d.floats;
}

-- where each slice ends there
abbrev pub ends_of : SceneBytes → Ends
ends_of b = record {
  words = length b.words / 4;
  floats = length b.floats / 4;
  node_weights = length b.floats / 4 + length b.node_weights / 4;
  mesh_weights = length b.floats / 4 + length b.node_weights / 4 + length b.mesh_weights / 4;
}

-- the scene that stands in a room, with these ends
abbrev pub standing_in : List ℕ → List Float → Ends → Header → Lent
standing_in words floats e h =
    lent_as (take e.words words) (take e.floats floats) (part floats e.floats (e.node_weights - e.floats))
    (part floats e.node_weights (e.mesh_weights - e.node_weights)) h

-- the ends rise, and lie in a room of so many words and floats
pub record Within (e : Ends) (word_room float_room : ℕ) : Type 0 where
  pub words : e.words ≤ word_room
  pub floats : e.floats ≤ e.node_weights
  pub node-weights : e.node_weights ≤ e.mesh_weights
  pub mesh-weights : e.mesh_weights ≤ float_room
