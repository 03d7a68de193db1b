-- The channels of the lent tables. Definitions only.
use Rattle.std.specs.Prelude.{List, ℕ, Float}
use Rattle.model.specs.Lists.{tabulate}
use Rattle.model.specs.Scene.{Track}
use Rattle.tracks.specs.declared.Part.{Part}
use Rattle.tracks.specs.Tracks.{track_in}
use Rattle.tables.specs.declared.ChannelRow.{ChannelRow}
use Rattle.tables.specs.Records.{channel_row}
use Rattle.tables.specs.Tags.{property_for, track_for}
use Rattle.tables.specs.Decoded.{driving}

-- what a record says: `channel_of` of the tables, which takes in the floats alone
abbrev pub channel_in : List Float → ChannelRow → Track
channel_in floats r = driving r.target (property_for r.property) (track_in floats (track_for r))

-- those of a table
abbrev pub channels_in : List ℕ → List Float → Part → List Track
channels_in words floats channels = tabulate channels.count (λ k. channel_in floats (channel_row words channels k))
