-- The numbers of the calls that are turned down: scope, "Numbers when a piece is turned down". The lowest number that
-- applies is answered; 13 comes before 1.
-- Definitions only.
use Rattle.std.specs.Prelude.{List, [], ◌∷◌, Bool, true, false, not, ◌&&◌, ◌||◌, ℕ, zero, suc, ◌+◌, eqb, ltb, Float, length}
use Rattle.std.specs.Float.Ieee.{is_nan}
use Rattle.model.specs.Lists.{pick, any_of}
use Rattle.model.specs.Limits.{key_limit, weight_limit}
use Rattle.model.specs.Scene.{Kind, vec3s, quats, scalars, Interpolation, step, linear, cubic_spline, Track, Scene}
use Rattle.model.specs.Scene.{node_count}
use Rattle.model.specs.Sampling.{even, stride, in_line}
use Rattle.model.specs.Placing.{child_entries}

-- beside each, the scope's word for it
pub data Refusal : Type 0 where
  -- short stock: an offset or count leaves its table
  out_of_table : Refusal
  -- over size: a limit is passed
  over_limit : Refusal
  -- no time: the time is NaN
  no_time : Refusal
  -- uneven track
  uneven_track : Refusal
  -- keys out of line
  keys_out_of_line : Refusal
  -- short bench: walk room, pose slots, world slots, or the room that bytes are decoded into
  short_scratch : Refusal
  -- no such piece
  no_such_node : Refusal
  -- unplaced
  unplaced_node : Refusal
  -- no palette
  no_palette : Refusal
  -- short sheet
  short_output : Refusal
  -- no common root
  no_common_root : Refusal
  -- no such frame
  no_such_frame : Refusal
  -- bad form: a text has no reading (request 2026-01)
  bad_form : Refusal

abbrev pub number : Refusal → ℕ
number out_of_table = 1
number over_limit = 2
number no_time = 3
number uneven_track = 4
number keys_out_of_line = 5
number short_scratch = 6
number no_such_node = 7
number unplaced_node = 8
number no_palette = 9
number short_output = 10
number no_common_root = 11
number no_such_frame = 12
number bad_form = 13

pub record Test : Type 0 where
  pub applies : Bool
  pub refusal : Refusal

-- the number of the first test that applies, or 0; tests stand in the order of judging
unfoldable pub first_of : List Test → ℕ
first_of [] = 0
first_of (t ∷ ts) = pick t.applies (number t.refusal) (first_of ts)

-- what the tables draw, 1 or 2, comes before every other number
abbrev pub lowest : ℕ → ℕ → ℕ
lowest zero n = n
lowest (suc g) n = suc g

-- ---- which call draws which number; `tables` is what the tables drew, 0, 1 or 2

abbrev pub is_scalars : Kind → Bool
is_scalars vec3s = false
is_scalars quats = false
is_scalars scalars = true

abbrev pub is_cubic : Interpolation → Bool
is_cubic step = false
is_cubic linear = false
is_cubic cubic_spline = true

-- a track with too many keys, or too many weights a frame where it is an even scalar track
abbrev pub track_over_limit : Track → Bool
track_over_limit t = ltb key_limit (length t.keys) || (is_scalars t.kind && even t && ltb weight_limit (stride t))

-- one track at a time; room is asked of a scalar track alone, whose weights are written out
abbrev pub sample_tests : Track → Float → ℕ → List Test
sample_tests t time room =
    record { applies = is_nan time; refusal = no_time }
    ∷ record { applies = not (even t); refusal = uneven_track }
    ∷ record { applies = not (in_line t.keys); refusal = keys_out_of_line }
    ∷ record { applies = is_scalars t.kind && ltb room (stride t); refusal = short_output }
    ∷ []

unfoldable pub sample_number : ℕ → Track → Float → ℕ → ℕ
sample_number tables t time room = lowest tables (first_of (sample_tests t time room))

-- frame k is not one of a scalar track with so many keys, or all three rows are asked of a track that is no cubic
-- spline
abbrev pub bad_frame : Kind → Interpolation → ℕ → Bool → ℕ → Bool
bad_frame kind i keys rows k = not (is_scalars kind) || not (ltb k keys) || (rows && not (is_cubic i))

-- a frame of a scalar track; whether all three rows of a cubic spline are asked for
abbrev pub frame_tests : Track → Bool → ℕ → List Test
frame_tests t rows k =
    record { applies = not (even t); refusal = uneven_track }
    ∷ record { applies = bad_frame t.kind t.interpolation (length t.keys) rows k; refusal = no_such_frame }
    ∷ []

unfoldable pub frame_number : ℕ → Track → Bool → ℕ → ℕ
frame_number tables t rows k = lowest tables (first_of (frame_tests t rows k))

-- an even track that is aimed at a node, whatever its kind, has keys that are not in line
abbrev pub some_keys_out_of_line : Scene → Bool
some_keys_out_of_line s =
    any_of (λ (t : Track). ltb t.target (node_count s) && even t && not (in_line t.keys)) s.tracks

-- the lengths of the lent scratch room: walk room in entries, pose and world slots
pub record Scratch : Type 0 where
  pub walk_room : ℕ
  pub pose_slots : ℕ
  pub world_slots : ℕ

-- walk room below roots + child entries, or fewer pose or world slots than nodes
abbrev pub scratch_is_short : Scene → Scratch → Bool
scratch_is_short s room =
    ltb room.walk_room (length s.roots + child_entries s)
    || ltb room.pose_slots (node_count s)
    || ltb room.world_slots (node_count s)

-- `sample_pose`
abbrev pub pose_tests : Scene → Float → ℕ → List Test
pose_tests s time slots =
    record { applies = is_nan time; refusal = no_time }
    ∷ record { applies = some_keys_out_of_line s; refusal = keys_out_of_line }
    ∷ record { applies = ltb slots (node_count s); refusal = short_scratch }
    ∷ []

unfoldable pub pose_number : ℕ → Scene → Float → ℕ → ℕ
pose_number tables s time slots = lowest tables (first_of (pose_tests s time slots))

-- `posed_node_transforms`, from a pose that is given
abbrev pub place_tests : Scene → Scratch → List Test
place_tests s room = record { applies = scratch_is_short s room; refusal = short_scratch } ∷ []

unfoldable pub place_number : ℕ → Scene → Scratch → ℕ
place_number tables s room = lowest tables (first_of (place_tests s room))

-- a bake, as far as number 6
abbrev pub early_tests : Scene → Float → Scratch → List Test
early_tests s time room =
    record { applies = is_nan time; refusal = no_time }
    ∷ record { applies = some_keys_out_of_line s; refusal = keys_out_of_line }
    ∷ record { applies = scratch_is_short s room; refusal = short_scratch }
    ∷ []

unfoldable pub early_number : ℕ → Scene → Float → Scratch → ℕ
early_number tables s time room = lowest tables (first_of (early_tests s time room))
