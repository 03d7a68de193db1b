-- Whether the keys of a channel are out of line. Definitions only.
use Rattle.std.specs.Prelude.{◌≡◌, Bool, false, not, ◌&&◌, List, ℕ, ◌≤◌, ◌<◌, ltb, Float}
use Rattle.std.specs.Float.Ieee.{is_nan}
use Rattle.model.specs.Limits.{channel_limit}
use Rattle.model.specs.Scene.{Track}
use Rattle.model.specs.Sampling.{even, in_line}
use Rattle.tracks.specs.declared.Part.{Part}
use Rattle.tracks.specs.Tracks.{table_number}
use Rattle.tables.specs.Records.{channel_row}
use Rattle.tables.specs.Tags.{track_for}
use Rattle.pose_slots.specs.Slots.{room}
use Rattle.pose_slots.specs.Channels.{channel_in}

-- an even track that is aimed at one of n nodes, with keys that are not in line
abbrev pub out_of_line : ℕ → Track → Bool
out_of_line n t = ltb t.target n && even t && not (in_line t.keys)

-- no track leaves the floats or passes a limit
abbrev pub NoneDrawn : List ℕ → List Float → Part → Type 0
NoneDrawn words floats channels =
    (k : ℕ) → k < channels.count → table_number floats (track_for (channel_row words channels k)) ≡ 0

abbrev pub AllInLine : List ℕ → List Float → Part → ℕ → Type 0
AllInLine words floats channels n =
    (k : ℕ) → k < channels.count → out_of_line n (channel_in floats (channel_row words channels k)) ≡ false

-- channels can drive n nodes at a time, in slots of which there are enough
abbrev pub Drivable : List ℕ → List Float → Part → ℕ → Float → List ℕ → List Float → Type 0
Drivable words floats channels n time marks slots =
    NoneDrawn words floats channels
    × (is_nan time ≡ false)
    × AllInLine words floats channels n
    × (n ≤ room marks slots)
    × (channels.count ≤ channel_limit)
