-- A track sampled in a table of bytes, which is decoded into lent room, a part of the bench, and what the call on it
-- leaves: scope, "The sampled value" and "Numbers when a piece is turned down". Definitions only.
use Rattle.std.specs.Prelude.{◌≡◌, Bool, not, List, [], ◌∷◌, ◌++◌, ℕ, zero, suc, ◌*◌, ltb, Float, length, take, drop}
use Rattle.std.specs.Float.Ieee.{is_nan}
use Rattle.borrowed.specs.Slices.{Words, Floats}
use Rattle.model.specs.Scene as scene
use Rattle.model.specs.Sampling.{even, in_line}
use Rattle.model.specs.Refusals.{no_time, uneven_track, keys_out_of_line, short_scratch, first_of, lowest}
use Rattle.model.specs.Calls.{Sampled, sampled}
use Rattle.model.specs.Bake.{written}
use Rattle.wire.specs.Bytes.{floats_in, bytes_of}
use Rattle.tracks.specs.declared.Track.{Track}
use Rattle.tracks.specs.Tracks.{track_in, table_number}
use Rattle.tables.specs.declared.ChannelRow.{ChannelRow}
use Rattle.tables.specs.Tags.{track_for}
use Rattle.track_entries.specs.declared.floats.Told.{Told}
use Rattle.track_entries.specs.Tracks.{number_for}

-- the numbers as far as 6, which change no slice: `tables` is what the table draws, 0, 1 or 2, and `short` says
-- whether the room to decode it into is short
unfoldable pub first_number : ℕ → scene.Track → Float → Bool → ℕ
first_number tables t time short =
    lowest tables
    (first_of
    (record { applies = is_nan time; refusal = no_time }
    ∷ record { applies = not (even t); refusal = uneven_track }
    ∷ record { applies = not (in_line t.keys); refusal = keys_out_of_line }
    ∷ record { applies = short; refusal = short_scratch }
    ∷ []))

-- of a track in a table of bytes, with room to decode so many floats
abbrev pub first_in_bytes : List ℕ → Track → Float → ℕ → ℕ
first_in_bytes table t time room =
    let floats = floats_in table in
    first_number (table_number floats t) (track_in floats t) time (ltb room (length floats))

-- the decoding room after a call that drew this number of those: where it is 0 the floats of the table stand at the
-- start, past them and otherwise the room is as lent; so 10 leaves it as an accepted call does
abbrev pub decoded_or : ℕ → List Float → List Float → List Float
decoded_or zero floats room = written floats room
decoded_or (suc n) floats room = room

-- what is sampled, and the decoding room after it
pub record Decoded : Type 0 where
  pub answer : Sampled
  pub room : List Float

-- a track of a table of these floats, which draws `tables`, with room to decode them and a slice for weights that is
-- lent: a number as far as 6 stands, and where there is none `sampled` can draw 10 alone, where that slice is short
abbrev pub sampled_with : ℕ → scene.Track → Float → List Float → List Float → List Float → Decoded
sampled_with tables t time floats room lent =
    let first = first_number tables t time (ltb (length room) (length floats)) in
    record { answer = sampled first t time lent; room = decoded_or first floats room }

-- in a table of bytes
abbrev pub sampled_in_bytes : List ℕ → Track → Float → List Float → List Float → Decoded
sampled_in_bytes table t time room lent =
    let floats = floats_in table in sampled_with (table_number floats t) (track_in floats t) time floats room lent

-- the same of a track that is handed in by numbers
abbrev pub sampled_for_bytes : List ℕ → ChannelRow → Float → List Float → List Float → Decoded
sampled_for_bytes table r time room lent =
    let floats = floats_in table in
    sampled_with (number_for floats r) (track_in floats (track_for r)) time floats room lent

-- number and weights are told, a Vec3 or Quat stands at the start of `value`, weights at the start of `out`; past
-- these the bytes are as lent
pub record DeliveredBytes (s : Sampled) (lent_value left_value lent_out left_out : List ℕ) (told : Told) : Type 0 where
  pub number : told.number ≡ s.number
  pub count : told.count ≡ s.weights
  pub value : left_value ≡ bytes_of s.value ++ drop (4 * length s.value) lent_value
  pub weights : left_out ≡ bytes_of (take s.weights s.slice) ++ drop (4 * s.weights) lent_out

-- the same, and the decoding room is left as it says
pub record DeliveredWithRoom (d : Decoded) (left_room : List Float) (lent_value left_value lent_out left_out : List ℕ)
    (told : Told) : Type 0 where
  pub answer : DeliveredBytes d.answer lent_value left_value lent_out left_out told
  pub room : left_room ≡ d.room

-- what a call leaves in the slices that it borrows: it is sampled with the room at entry, and `out` is a slice for as
-- many weights as it has whole floats
abbrev pub SampledBytes : (List Float → List Float → Decoded) → Floats → Words → Words → Told → Type 0
SampledBytes call room value out told =
    DeliveredWithRoom (call room.entry.now (floats_in out.entry.now)) room.exit.now
    value.entry.now value.exit.now out.entry.now out.exit.now told
