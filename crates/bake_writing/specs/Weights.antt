-- The weights that a bake blends with, in a slice of as many as a frame has at most: scope, "Palette, skin root,
-- weights". Definitions only.
use Rattle.std.specs.Prelude.{◌≡◌, false, List, ℕ, ◌≤◌, ◌<◌, Float, length, take}
use Rattle.std.proofs.Math.Option.{some}
use Rattle.std.specs.Float.Ieee.{is_nan}
use Rattle.model.specs.Limits.{weight_limit}
use Rattle.model.specs.Scene.{scalars, node_count, node_at}
use Rattle.model.specs.Sampling.{sample}
use Rattle.model.specs.World.{poses_of, pose_at}
use Rattle.model.specs.Skin.{effective_weights, blend_weights}
use Rattle.model.specs.Refusals.{sample_number, some_keys_out_of_line}
use Rattle.tracks.specs.Tracks.{table_number}
use Rattle.tables.specs.declared.ChannelRow.{ChannelRow}
use Rattle.tables.specs.declared.Header.{Header}
use Rattle.tables.specs.declared.NodeRow.{NodeRow}
use Rattle.tables.specs.declared.MeshRow.{MeshRow}
use Rattle.tables.specs.Tags.{track_for}
use Rattle.tables.specs.Decoded.{Lent, node_of, mesh_of, scene_of}
use Rattle.checks.specs.Drawn.{lent_as, tables_number}
use Rattle.pose_slots.specs.Slots.{room}
use Rattle.pose_slots.specs.Channels.{channel_in}
use Rattle.pose.specs.Encoded.{encoded_words}

-- the first r floats are the sampled value of a channel, where it has weights that can be sampled
pub record Weighed (floats : List Float) (row : ChannelRow) (time : Float) (left : List Float) (r : ℕ) : Type 0 where
  pub size : length left ≡ weight_limit
  pub few : r ≤ weight_limit
  pub weights : sample_number (table_number floats (track_for row)) (channel_in floats row) time weight_limit ≡ 0
      → (channel_in floats row).kind ≡ scalars
      → sample (channel_in floats row) time ≡ some (take r left)

-- they are the effective weights of the node and the mesh that two rows say, cut off at the limit
pub record Unposed (node_weights mesh_weights : List Float) (node : NodeRow) (mesh : MeshRow) (left : List Float)
    (r : ℕ) : Type 0 where
  pub size : length left ≡ weight_limit
  pub few : r ≤ weight_limit
  pub weights : (words : List ℕ) (floats : List Float) (h : Header)
      → take r left
      ≡ take weight_limit
      (effective_weights (node_of (lent_as words floats node_weights mesh_weights h) node).weights
      (mesh_of (lent_as words floats node_weights mesh_weights h) mesh))

-- they are the weights that node i is blended with, cut off at the limit, where the pose at the time stands in the
-- slots
pub record Blending (l : Lent) (time : Float) (marks : List ℕ) (i : ℕ) (mesh : MeshRow) (left : List Float) (r : ℕ)
    : Type 0 where
  pub size : length left ≡ weight_limit
  pub few : r ≤ weight_limit
  pub weights : tables_number l ≡ 0 → is_nan time ≡ false → some_keys_out_of_line (scene_of l) ≡ false
      → i < node_count (scene_of l)
      → (lent : List ℕ) (slots : List Float) → node_count (scene_of l) ≤ room lent slots
      → marks ≡ encoded_words time (node_count (scene_of l)) (scene_of l).tracks lent
      → take r left
      ≡ take weight_limit
      (blend_weights (pose_at (poses_of time (scene_of l)) i).weights (node_at (scene_of l) i).weights (mesh_of l mesh))
