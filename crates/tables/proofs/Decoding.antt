-- What row i of a table says is the model's part: the laws that code cites. Assumes nothing.
use mathlib.Core.Path.{◌≡◌}
use mathlib.Core.Option.{none, some}
use Prim.Native.Nat.{ℕ, ◌+◌, ◌≤◌, ◌<◌}
use lib.ListN.{length, get_elem?}
use Rattle.model.specs.Scene as scene
use Rattle.model.specs.Agree.{Agree}
use Rattle.model.proofs.ListLaws.{length-tabulate, get_d_tabulate, entry-there, entry_past}
use Rattle.model.proofs.Alike.{agree-alike}
use Rattle.tracks.specs.declared.Part.{Part}
use Rattle.tables.specs.Records.{node_row, channel_row, mesh_row, skin_row, skeleton_row}
use Rattle.tables.specs.Decoded.{Lent, node_of, channel_of, mesh_of, skin_of, skeleton_of, records_in, scene_of}

module _ (l : Lent) where
  pub node-count : scene.node_count (scene_of l) ≡ l.header.graph.nodes.count
  unfolding scene_of
  node-count = length-tabulate _ _

  pub channel-count : length (scene_of l).tracks ≡ l.header.channels.count
  unfolding scene_of
  channel-count = length-tabulate _ _

  module _ (i : ℕ) where
    pub node-at : i < l.header.graph.nodes.count → scene.node_at (scene_of l) i ≡ node_of l (node_row l.words l.header.graph.nodes i)
    unfolding scene_of
    node-at h = get_d_tabulate _ _ i scene.blank h

    pub channel-at : i < l.header.channels.count → get_elem? (scene_of l).tracks i ≡ some (channel_of l (channel_row l.words l.header.channels i))
    unfolding scene_of
    channel-at h = entry-there _ _ i h

    pub mesh-at : i < l.header.meshes.meshes.count → get_elem? (scene_of l).meshes i ≡ some (mesh_of l (mesh_row l.words l.header.meshes.meshes i))
    unfolding scene_of
    mesh-at h = entry-there _ _ i h

    pub no-mesh : l.header.meshes.meshes.count ≤ i → get_elem? (scene_of l).meshes i ≡ none
    unfolding scene_of
    no-mesh h = entry_past _ _ i h

    pub skin-at : i < l.header.skins.skins.count → get_elem? (scene_of l).skins i ≡ some (skin_of (skin_row l.words l.header.skins.skins i))
    unfolding scene_of
    skin-at h = entry-there _ _ i h

    pub no-skin : l.header.skins.skins.count ≤ i → get_elem? (scene_of l).skins i ≡ none
    unfolding scene_of
    no-skin h = entry_past _ _ i h

    pub skeleton-at : i < l.header.skins.skeletons.count → get_elem? (scene_of l).skeletons i ≡ some (skeleton_of l (skeleton_row l.words l.header.skins.skeletons i))
    unfolding scene_of
    skeleton-at h = entry-there _ _ i h

    pub no-skeleton : l.header.skins.skeletons.count ≤ i → get_elem? (scene_of l).skeletons i ≡ none
    unfolding scene_of
    no-skeleton h = entry_past _ _ i h

-- record k of a list of records: primitives of a mesh, targets of a primitive, in-betweens of a target
pub record-at : {A : Type 0} (f : ℕ → A) (p : Part) (k : ℕ) → k < p.count → get_elem? (records_in f p) k ≡ some (f (p.at + k))
record-at f p k h = entry-there p.count (λ j. f (p.at + j)) k h

-- tables that say the same scene agree on every node, wherever their parts lie
pub offsets-apart : (l₁ l₂ : Lent) → scene_of l₁ ≡ scene_of l₂ → (i : ℕ) → Agree (scene_of l₁) (scene_of l₂) i
offsets-apart l₁ l₂ e i = agree-alike (scene_of l₁) (scene_of l₂) e i
