-- The scene that a document says, form by form and field by field (docs/TEXT.md). Definitions only.
use Rattle.std.specs.Prelude.{List, [], map, ℕ, ◌+◌, Float, get_or}
use Rattle.std.proofs.Math.Option.{Option}
use Rattle.float.specs.F32.{zero32}
use Rattle.model.specs.Lists.{pick, rows_in, is_some, map_some, tabulate}
use Rattle.model.specs.Vector.{Vector}
use Rattle.model.specs.Transform.{Transform, parts, matrix}
use Rattle.model.specs.Scene as scene
use Rattle.tables.specs.Decoded.{parts_from}
use Rattle.grammar.specs.Forms.{Form, Document}
use Rattle.scene_forms.specs.Filled.{reals_of}
use Rattle.scene_forms.specs.Laid.{items_of, field_at, item_of}
use Rattle.scene_forms.specs.Said.{forms_of, scene_form}

-- ---- fields

abbrev pub numbers_at : Form → ℕ → List ℕ
numbers_at f j = items_of (field_at f j)

abbrev pub reals_at : Form → ℕ → List Float
reals_at f j = reals_of (items_of (field_at f j))

-- where they are there
abbrev pub id_at : Form → ℕ → Option ℕ
id_at f j = map_some (λ (xs : List ℕ). get_or xs 0 0) (field_at f j)

abbrev pub maybe_reals : Form → ℕ → Option (List Float)
maybe_reals f j = map_some reals_of (field_at f j)

abbrev pub maybe_rows : ℕ → Form → ℕ → Option (List Vector)
maybe_rows width f j = map_some (λ (xs : List ℕ). rows_in width (reals_of xs)) (field_at f j)

-- of two alternatives, the first where slot j is there
abbrev pub by_word : {A : Type 0} → Form → ℕ → A → A → A
by_word f j a b = pick (is_some (field_at f j)) a b

-- ---- forms

abbrev pub node_from : Form → scene.Node
node_from f = record {
  base = by_word f 1 (matrix (reals_at f 1)) (parts (parts_from (reals_at f 0)));
  children = numbers_at f 2;
  mesh = id_at f 3;
  skin = id_at f 4;
  weights = maybe_reals f 5;
}

abbrev pub track_from : Form → scene.Track
track_from f = record {
  target = item_of f 0 0;
  property = by_word f 1 scene.translation (by_word f 2 scene.rotation (by_word f 3 scene.scale scene.morph_weights));
  kind = by_word f 9 scene.vec3s (by_word f 10 scene.quats scene.scalars);
  interpolation = by_word f 5 scene.step (by_word f 6 scene.linear scene.cubic_spline);
  keys = reals_at f 8;
  values = by_word f 9 (reals_at f 9) (by_word f 10 (reals_at f 10) (reals_at f 11));
}

abbrev pub in_between_from : Form → scene.InBetween
in_between_from f = record {
  weight = get_or (reals_at f 0) 0 zero32;
  positions = maybe_rows 3 f 1;
  normals = maybe_rows 3 f 2;
}

-- the forms that a field of two numbers names: the first and how many
abbrev pub listed_from : {A : Type 0} → (Form → A) → List Form → Form → ℕ → List A
listed_from g fs f j = tabulate (item_of f j 1) (λ i. g (get_or fs (item_of f j 0 + i) []))

abbrev pub target_from : Document → Form → scene.Target
target_from d f = record {
  positions = maybe_rows 3 f 0;
  normals = maybe_rows 3 f 1;
  tangents = maybe_rows 3 f 2;
  in_betweens = listed_from in_between_from (forms_of d 6) f 3;
}

abbrev pub primitive_from : Document → Form → scene.Primitive
primitive_from d f = record {
  positions = rows_in 3 (reals_at f 0);
  normals = maybe_rows 3 f 1;
  tangents = maybe_rows 4 f 2;
  joints = map_some (rows_in 4) (field_at f 3);
  weights = maybe_rows 4 f 4;
  targets = listed_from (target_from d) (forms_of d 5) f 5;
}

abbrev pub mesh_from : Document → Form → scene.Mesh
mesh_from d f = record {
  primitives = listed_from (primitive_from d) (forms_of d 4) f 0;
  weights = reals_at f 1;
}

abbrev pub skin_from : Form → scene.Skin
skin_from f = record { skeleton = item_of f 0 0; root = id_at f 1 }

abbrev pub skeleton_from : Form → scene.Skeleton
skeleton_from f = record { joints = numbers_at f 0; inverse_binds = rows_in 16 (reals_at f 1) }

-- ---- the whole

unfoldable pub scene_from : Document → scene.Scene
scene_from d = record {
  nodes = map node_from (forms_of d 1);
  roots = numbers_at (scene_form d) 2;
  tracks = map track_from (forms_of d 2);
  meshes = map (mesh_from d) (forms_of d 3);
  skins = map skin_from (forms_of d 7);
  skeletons = map skeleton_from (forms_of d 8);
}
