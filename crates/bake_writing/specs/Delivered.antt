-- The result of a bake from a scratch room that holds the pose and the placing, for tables whose skeletons are within
-- their limit. Definitions only.
use Rattle.std.specs.Prelude.{◌≡◌, true, List, [], map, ℕ, ◌<◌, Float, length}
use Rattle.std.proofs.Math.Option.{Option, some}
use Rattle.borrowed.specs.declared.Vertices.{Vertices}
use Rattle.model.specs.Lists.{is_some}
use Rattle.model.specs.Matrix.{Matrix}
use Rattle.model.specs.Scene.{node_at, skeleton_at}
use Rattle.model.specs.World.{poses_of, pose_at, worlds, world_at}
use Rattle.model.specs.Skin.{blend_weights}
use Rattle.model.specs.Refusals.{early_number}
use Rattle.model.specs.Bake.{Output, baked_primitive, output_of, palette_with}
use Rattle.tracks.specs.declared.Part.{Part}
use Rattle.tables.specs.declared.Header.{Header}
use Rattle.tables.specs.declared.MeshRow.{MeshRow}
use Rattle.tables.specs.declared.Reference.{Reference}
use Rattle.tables.specs.Records.{node_row, mesh_row, skeleton_row}
use Rattle.tables.specs.Decoded.{Lent, mesh_of, scene_of}
use Rattle.row_checks.specs.Bounds.{skeleton_within}
use Rattle.checks.specs.Drawn.{lent_as, tables_number}
use Rattle.shapes.specs.Rest.{primitives_in, lengths_below, AtMost, Drawable, PutOut}
use Rattle.bake_stages.specs.Scratch.{Slices, room_of, scratch_left}
use Rattle.bake_stages.specs.Skinned.{skin_palette_from, palette_from}
use Rattle.bake_writing.specs.declared.Placed.{Placed}

-- the record of node i's mesh, and its primitives
abbrev pub mesh_record : List ℕ → Header → ℕ → MeshRow
mesh_record words h i = mesh_row words h.meshes.meshes (node_row words h.graph.nodes i).mesh.id

abbrev pub part_of : List ℕ → Header → ℕ → Part
part_of words h i = (mesh_record words h i).primitives

abbrev pub SkeletonsWithin : List ℕ → Part → Type 0
SkeletonsWithin words t = (k : ℕ) → k < t.count → skeleton_within (skeleton_row words t k) ≡ true

-- a result stands at the start of the outputs
abbrev pub Holds : Output → Vertices → Vertices → Type 0
Holds o old new =
    PutOut o old.positions.now new.positions.now old.normals.now new.normals.now old.tangents.now new.tangents.now

-- the primitives of a mesh, blended with weights, and placed by a world and a palette, stand at the start of the
-- outputs
abbrev pub MeshPutOut : Lent → Part → Matrix → Option (List Matrix) → List Float → Vertices → Vertices → Type 0
MeshPutOut l primitives world palette weights old new =
    Holds
    (output_of (map (baked_primitive world palette weights)
    (primitives_in (lent_as l.words l.floats [] [] l.header) primitives)))
    old new

-- with the palette of a skin, where one can be made from the world slots
abbrev pub SkinnedPutOut : Lent → Part → Matrix → ℕ → Placed → List Float → Vertices → Vertices → Type 0
SkinnedPutOut l primitives world skin placed weights old new =
    (own mesh : List Float) (p : List Matrix)
    → skin_palette_from (lent_as l.words l.floats own mesh l.header) skin placed.places.now placed.worlds.now ≡ some p
    → MeshPutOut l primitives world (some p) weights old new

-- with that of what a node names, if that is a skin
abbrev pub NamedPutOut : Lent → Part → Matrix → Reference → Placed → List Float → Vertices → Vertices → Type 0
NamedPutOut l primitives world skin placed weights old new =
    (own mesh : List Float) (p : Option (List Matrix))
    → palette_from (lent_as l.words l.floats own mesh l.header) skin placed.places.now placed.worlds.now ≡ some p
    → MeshPutOut l primitives world p weights old new

-- the primitives can be put out: they lie in their tables, the outputs are long enough, and the skeletons are within
-- their limit
abbrev pub Deliverable : List ℕ → List Float → Header → Part → Vertices → Type 0
Deliverable words floats h primitives out =
    Drawable words floats h.meshes.primitives primitives
    × AtMost (lengths_below words h.meshes.primitives primitives primitives.count)
    (length out.positions.now) (length out.normals.now) (length out.tangents.now)
    × SkeletonsWithin words h.skins.skeletons

-- the weights that node i's mesh is blended with at a time
abbrev pub weights_at : Lent → ℕ → Float → List Float
weights_at l i time =
    blend_weights (pose_at (poses_of time (scene_of l)) i).weights (node_at (scene_of l) i).weights
    (mesh_of l (mesh_record l.words l.header i))

pub record Delivered (l : Lent) (i : ℕ) (time : Float) (marks places : List ℕ) (worlds' lp p ln n lt t : List Float)
    : Type 0 where
  pub result : (lent : Slices) → early_number (tables_number l) (scene_of l) time (room_of lent) ≡ 0
      → i < l.header.graph.nodes.count
      → (node_row l.words l.header.graph.nodes i).mesh.id < l.header.meshes.meshes.count
      → marks ≡ (scratch_left l time lent).marks
      → places ≡ (scratch_left l time lent).places
      → worlds' ≡ (scratch_left l time lent).worlds
      → (w : Matrix) (o : Option (List Matrix))
      → world_at (worlds (poses_of time (scene_of l)) (scene_of l)) i ≡ some w
      → palette_with (world_at (worlds (poses_of time (scene_of l)) (scene_of l)))
      (is_some (node_at (scene_of l) i).skin) (skeleton_at (scene_of l) i) ≡ some o
      → PutOut
      (output_of (map (baked_primitive w o (weights_at l i time))
      (mesh_of l (mesh_record l.words l.header i)).primitives))
      lp p ln n lt t

-- of what a call is lent
abbrev pub Delivers : Lent → ℕ → Float → List ℕ → Placed → Vertices → Vertices → Type 0
Delivers l i time marks placed old new =
    Delivered l i time marks placed.places.now placed.worlds.now
    old.positions.now new.positions.now
    old.normals.now new.normals.now
    old.tangents.now new.tangents.now
