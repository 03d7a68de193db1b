-- What holds of tables that draw neither 1 nor 2. Definitions only.
use Rattle.std.specs.Prelude.{◌≡◌, true, ℕ, ◌≤◌, ◌<◌, length}
use Rattle.model.specs.Scene.{node_count}
use Rattle.model.specs.Placing.{child_entries}
use Rattle.model.specs.Limits.{node_limit, root_limit, channel_limit, child_entry_limit}
use Rattle.tracks.specs.Tracks as tracks
use Rattle.tables.specs.Records.{node_row, channel_row, mesh_row, primitive_row, target_row, in_between_row, skin_row}
use Rattle.tables.specs.Records.{skeleton_row}
use Rattle.tables.specs.Tags.{track_for}
use Rattle.tables.specs.Decoded.{Lent, scene_of}
use Rattle.row_checks.specs.Places.{fits_in, node_fits, mesh_fits, primitive_fits, target_fits, in_between_fits, skeleton_fits}
use Rattle.row_checks.specs.Bounds.{node_within, tags_known, mesh_within, primitive_within, target_within, in_between_within}
use Rattle.row_checks.specs.Bounds.{skin_within, skeleton_within}
use Rattle.checks.specs.declared.Table.{Table}
use Rattle.checks.specs.declared.Table.TheVariants as table
use Rattle.checks.specs.Drawn.{table_of, record_words, sizes_of, sum_below, child_count}

-- record i of a table: its parts lie in their tables, and it is within its limits
abbrev pub Sound : Lent → Table → ℕ → Type 0
Sound l table.Nodes i =
    let r = node_row l.words l.header.graph.nodes i in
    (node_fits (sizes_of l) r ≡ true) × (node_within r ≡ true)
Sound l table.Channels i =
    let r = channel_row l.words l.header.channels i in
    (tracks.table_number l.floats (track_for r) ≡ 0) × (tags_known r ≡ true)
Sound l table.Meshes i =
    let r = mesh_row l.words l.header.meshes.meshes i in
    (mesh_fits (sizes_of l) r ≡ true) × (mesh_within r ≡ true)
Sound l table.Primitives i =
    let r = primitive_row l.words l.header.meshes.primitives i in
    (primitive_fits (sizes_of l) r ≡ true) × (primitive_within r ≡ true)
Sound l table.Targets i =
    let r = target_row l.words l.header.meshes.targets i in
    (target_fits (sizes_of l) r ≡ true) × (target_within r ≡ true)
Sound l table.InBetweens i =
    let r = in_between_row l.words l.header.meshes.in_betweens i in
    (in_between_fits (sizes_of l) r ≡ true) × (in_between_within r ≡ true)
Sound l table.Skins i = skin_within (skin_row l.words l.header.skins.skins i) ≡ true
Sound l table.Skeletons i =
    let r = skeleton_row l.words l.header.skins.skeletons i in
    (skeleton_fits (sizes_of l) r ≡ true) × (skeleton_within r ≡ true)

-- every table lies in the words, every record is sound, and the scene that they say is within the limits of the listing
pub record Checked (l : Lent) : Type 0 where
  pub tables : (k : Table) → fits_in (table_of l.header k) (record_words k) (length l.words) ≡ true
  pub records : (k : Table) (i : ℕ) → i < (table_of l.header k).count → Sound l k i
  pub roots : fits_in l.header.graph.roots 1 (length l.words) ≡ true
  pub root-count : length (scene_of l).roots ≡ l.header.graph.roots.count
  pub few-nodes : node_count (scene_of l) ≤ node_limit
  pub few-roots : length (scene_of l).roots ≤ root_limit
  pub few-channels : length (scene_of l).tracks ≤ channel_limit
  pub few-children : child_entries (scene_of l) ≤ child_entry_limit
  pub children : sum_below l.header.graph.nodes.count (child_count l.words l.header.graph.nodes)
      ≡ child_entries (scene_of l)
