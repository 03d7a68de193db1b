-- What the numbers of a track that is handed in say, and what the calls on it leave: scope, "The sampled value" and
-- "Numbers when a piece is turned down". Definitions only.
use Rattle.std.specs.Prelude.{◌≡◌, Bool, true, false, not, List, [], ◌∷◌, ◌++◌, ℕ, Float, length, drop}
use Rattle.borrowed.specs.Slices.{Floats}
use Rattle.model.specs.Calls.{Sampled, sampled, frame_of, stride_of}
use Rattle.model.specs.Refusals.{over_limit, first_of, lowest, frame_number}
use Rattle.outputs.specs.Output.{CopiedOut}
use Rattle.tracks.specs.declared.Track.{Track}
use Rattle.tracks.specs.Tracks.{track_in, table_number}
use Rattle.tables.specs.declared.ChannelRow.{ChannelRow}
use Rattle.tables.specs.Tags.{track_for}
use Rattle.row_checks.specs.Bounds.{tags_known}
use Rattle.track_entries.specs.declared.floats.Told.{Told}

-- kind, interpolation, where the keys start and how many there are, and the same of the values, as a channel's; what
-- it drives does not matter here
abbrev pub row_for : ℕ → ℕ → ℕ → ℕ → ℕ → ℕ → ChannelRow
row_for k i keys_at keys_count values_at values_count =
    record {
      target = 0;
      property = 0;
      kind = k;
      interpolation = i;
      keys = record { at = keys_at; count = keys_count };
      values = record { at = values_at; count = values_count };
    }

-- what the track draws: what its table does, 1 or 2, and 2 where kind or interpolation names nothing
unfoldable pub track_number : ℕ → ChannelRow → ℕ
track_number table r = lowest table (first_of (record { applies = not (tags_known r); refusal = over_limit } ∷ []))

-- ---- the calls on a track in a table

abbrev pub sampled_in : List Float → Track → Float → List Float → Sampled
sampled_in floats t time lent = sampled (table_number floats t) (track_in floats t) time lent

abbrev pub frame_in : List Float → Track → Bool → ℕ → List Float
frame_in floats t rows k = frame_of (table_number floats t) (track_in floats t) rows k

-- ---- the same on one that is handed in by numbers

abbrev pub number_for : List Float → ChannelRow → ℕ
number_for floats r = track_number (table_number floats (track_for r)) r

abbrev pub sampled_for : List Float → ChannelRow → Float → List Float → Sampled
sampled_for floats r time lent = sampled (number_for floats r) (track_in floats (track_for r)) time lent

abbrev pub frame_number_for : List Float → ChannelRow → Bool → ℕ → ℕ
frame_number_for floats r rows k = frame_number (number_for floats r) (track_in floats (track_for r)) rows k

abbrev pub frame_for : List Float → ChannelRow → Bool → ℕ → List Float
frame_for floats r rows k = frame_of (number_for floats r) (track_in floats (track_for r)) rows k

abbrev pub stride_for : List Float → ChannelRow → ℕ
stride_for floats r = stride_of (number_for floats r) (track_in floats (track_for r))

-- ---- what is told and left

abbrev pub mark_of : Bool → ℕ
mark_of false = 0
mark_of true = 1

-- a sampled track: number and weights are told, a Vec3 or Quat stands at the start of an array that is otherwise as
-- lent, and the slice is left as the sampling leaves it
pub record Delivered (s : Sampled) (lent array slice : List Float) (told : Told) : Type 0 where
  pub number : told.number ≡ s.number
  pub count : told.count ≡ s.weights
  pub value : array ≡ s.value ++ drop (length s.value) lent
  pub weights : slice ≡ s.slice

-- a track that is handed in by numbers, in an array and a slice that are borrowed
abbrev pub Samples : List Float → ChannelRow → Float → Floats → Floats → Told → Type 0
Samples floats r time value out told =
    Delivered (sampled_for floats r time out.entry.now)
    value.entry.now value.exit.now out.exit.now told

-- frame k, or all three rows of it, copied into an output
abbrev pub Framed : List Float → ChannelRow → Bool → ℕ → List Float → List Float → Told → Type 0
Framed floats r rows k lent left told =
    CopiedOut (frame_number_for floats r rows k) (frame_for floats r rows k) lent left told.number told.count

abbrev pub Frames : List Float → ChannelRow → Bool → ℕ → Floats → Told → Type 0
Frames floats r rows k out told = Framed floats r rows k out.entry.now out.exit.now told
