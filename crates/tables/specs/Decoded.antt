-- The scene that the lent tables say: offsets are resolved into lists, and what is absent is told from what is empty
-- (docs/TABLES.md). It is given for any tables; where one of them is left, the call draws 1, and what is read there
-- does not matter. Definitions only.
use Rattle.std.specs.Prelude.{List, ℕ, ◌+◌, ◌*◌, leb, Float, length, get_or, take, replicate}
use Rattle.std.proofs.Math.Option.{Option, none, some}
use Rattle.float.specs.F32.{zero32}
use Rattle.model.specs.Lists.{pick, tabulate, part, rows_in}
use Rattle.model.specs.Transform.{Trs, Transform, parts, matrix}
use Rattle.model.specs.Scene as scene
use Rattle.scene.specs.Slots.{matrix_in}
use Rattle.tracks.specs.declared.Part.{Part}
use Rattle.tracks.specs.Tracks.{track_in}
use Rattle.tables.specs.declared.Header.{Header}
use Rattle.tables.specs.declared.Lent as code
use Rattle.tables.specs.declared.Slot.{Slot}
use Rattle.tables.specs.declared.NodeRow.{NodeRow}
use Rattle.tables.specs.declared.ChannelRow.{ChannelRow}
use Rattle.tables.specs.declared.MeshRow.{MeshRow}
use Rattle.tables.specs.declared.PrimitiveRow.{PrimitiveRow}
use Rattle.tables.specs.declared.TargetRow.{TargetRow}
use Rattle.tables.specs.declared.InBetweenRow.{InBetweenRow}
use Rattle.tables.specs.declared.SkinRow.{SkinRow}
use Rattle.tables.specs.declared.SkeletonRow.{SkeletonRow}
use Rattle.tables.specs.Records.{node_row, channel_row, mesh_row, primitive_row, target_row, in_between_row, skin_row}
use Rattle.tables.specs.Records.{skeleton_row}
use Rattle.tables.specs.Tags.{is_marked, property_for, track_for, id_of}

-- all that a call on a scene is lent: the nodes' own weights and the meshes' stand in slices of their own
pub record Lent : Type 0 where
  pub words : List ℕ
  pub floats : List Float
  pub node_weights : List Float
  pub mesh_weights : List Float
  pub header : Header

-- what the slices that a call is lent hold
abbrev pub lent_of : code.Lent → Lent
lent_of l = record {
  words = l.words.now;
  floats = l.floats.now;
  node_weights = l.node_weights.now;
  mesh_weights = l.mesh_weights.now;
  header = l.header;
}

-- ---- parts of a slice

-- the rows of so many entries that a part names, as they lie in the slice
abbrev pub span_in : {A : Type 0} → List A → Part → ℕ → List A
span_in l p width = part l p.at (p.count * width)

abbrev pub slot_in : {A : Type 0} → List A → Slot → ℕ → Option (List (List A))
slot_in l s width = pick (is_marked s.mark) (some (rows_in width (span_in l s.part width))) none

-- ten floats: translation, rotation and scale, zeros where they are not there
unfoldable pub ten_in : List Float → ℕ → List Float
ten_in floats at = pick (leb (at + 10) (length floats)) (part floats at 10) (replicate 10 zero32)

abbrev pub parts_from : List Float → Trs
parts_from ten = record { translation = take 3 ten; rotation = part ten 3 4; scale = part ten 7 3 }

-- ---- what a record says

abbrev pub base_of : List Float → NodeRow → Transform
base_of floats r =
    pick (is_marked r.form) (matrix (matrix_in floats r.base)) (parts (parts_from (ten_in floats r.base)))

-- the child list of node i
abbrev pub children_in : List ℕ → Part → ℕ → List ℕ
children_in words nodes i = span_in words (node_row words nodes i).children 1

abbrev pub node_of : Lent → NodeRow → scene.Node
node_of l r = record {
  base = base_of l.floats r;
  children = span_in l.words r.children 1;
  mesh = id_of r.mesh;
  skin = id_of r.skin;
  weights = pick (is_marked r.weights.mark) (some (span_in l.node_weights r.weights.part 1)) none;
}

-- a track with what it drives
abbrev pub driving : ℕ → scene.Property → scene.Track → scene.Track
driving n p t =
    record {
      target = n;
      property = p;
      kind = t.kind;
      interpolation = t.interpolation;
      keys = t.keys;
      values = t.values;
    }

abbrev pub channel_of : Lent → ChannelRow → scene.Track
channel_of l r = driving r.target (property_for r.property) (track_in l.floats (track_for r))

abbrev pub in_between_of : Lent → InBetweenRow → scene.InBetween
in_between_of l r = record {
  weight = get_or l.floats r.weight zero32;
  positions = slot_in l.floats r.positions 3;
  normals = slot_in l.floats r.normals 3;
}

-- the records of a table that a part names, the first by its number
abbrev pub records_in : {A : Type 0} → (ℕ → A) → Part → List A
records_in f p = tabulate p.count (λ k. f (p.at + k))

abbrev pub target_of : Lent → TargetRow → scene.Target
target_of l r = record {
  positions = slot_in l.floats r.positions 3;
  normals = slot_in l.floats r.normals 3;
  tangents = slot_in l.floats r.tangents 3;
  in_betweens =
      records_in (λ i. in_between_of l (in_between_row l.words l.header.meshes.in_betweens i)) r.in_betweens;
}

abbrev pub primitive_of : Lent → PrimitiveRow → scene.Primitive
primitive_of l r = record {
  positions = rows_in 3 (span_in l.floats r.positions 3);
  normals = slot_in l.floats r.normals 3;
  tangents = slot_in l.floats r.tangents 4;
  joints = slot_in l.words r.joints 4;
  weights = slot_in l.floats r.weights 4;
  targets = records_in (λ i. target_of l (target_row l.words l.header.meshes.targets i)) r.targets;
}

abbrev pub mesh_of : Lent → MeshRow → scene.Mesh
mesh_of l r = record {
  primitives =
      records_in (λ i. primitive_of l (primitive_row l.words l.header.meshes.primitives i)) r.primitives;
  weights = span_in l.mesh_weights r.weights 1;
}

abbrev pub skin_of : SkinRow → scene.Skin
skin_of r = record { skeleton = r.skeleton; root = id_of r.root }

abbrev pub skeleton_of : Lent → SkeletonRow → scene.Skeleton
skeleton_of l r = record {
  joints = span_in l.words r.joints 1;
  inverse_binds = rows_in 16 (span_in l.floats r.inverse_binds 16);
}

-- ---- the whole

unfoldable pub scene_of : Lent → scene.Scene
scene_of l = record {
  nodes = tabulate l.header.graph.nodes.count (λ i. node_of l (node_row l.words l.header.graph.nodes i));
  roots = span_in l.words l.header.graph.roots 1;
  tracks = tabulate l.header.channels.count (λ i. channel_of l (channel_row l.words l.header.channels i));
  meshes =
      tabulate l.header.meshes.meshes.count (λ i. mesh_of l (mesh_row l.words l.header.meshes.meshes i));
  skins = tabulate l.header.skins.skins.count (λ i. skin_of (skin_row l.words l.header.skins.skins i));
  skeletons =
      tabulate l.header.skins.skeletons.count
      (λ i. skeleton_of l (skeleton_row l.words l.header.skins.skeletons i));
}
