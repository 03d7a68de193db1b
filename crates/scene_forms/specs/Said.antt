-- The tables of a document (docs/TEXT.md): in `words` the ids, one list behind the other, and then the records of each
-- kind; the floats and the two sorts of weights in slices of their own; where each table lies; the node and the time
-- that are asked for. Definitions only.
use Rattle.std.specs.Prelude.{Bool, ◌||◌, List, [], ◌++◌, ℕ, ◌+◌, ◌*◌, ltb, Float, length, get_or}
use Rattle.std.specs.Float.{binary32}
use Rattle.std.specs.Float.Ieee.{of_bits}
use Rattle.tracks.specs.declared.Part.{Part}
use Rattle.tables.specs.declared.Header.{Header}
use Rattle.grammar.specs.Forms.{Form, Document}
use Rattle.scene_schema.specs.declared.Pool.TheVariants as pool
use Rattle.scene_marks.specs.Marks.{stride_of}
use Rattle.scene_forms.specs.Filled.{reals_of}
use Rattle.scene_forms.specs.Laid.{items_of, field_at, item_of, no_counts, items_from, rows_from, reach_of}
use Rattle.scene_forms.specs.Read.{Slices}

-- kinds: scene, node, channel, mesh, primitive, target, between, skin, skeleton
abbrev pub forms_of : Document → ℕ → List Form
forms_of d k = get_or d k []

abbrev pub count_of : Document → ℕ → ℕ
count_of d k = length (forms_of d k)

abbrev pub ids_of : Document → List ℕ
ids_of d = items_from pool.Ids 0 d

-- what each slice holds at its start
unfoldable pub tables_of : Document → Slices
tables_of d = record {
  words = ids_of d ++ rows_from 0 d no_counts;
  floats = reals_of (items_from pool.Floats 0 d);
  node_weights = reals_of (items_from pool.NodeWeights 0 d);
  mesh_weights = reals_of (items_from pool.MeshWeights 0 d);
}

-- ---- where the tables lie

abbrev pub table_at : ℕ → ℕ → Part
table_at at count = record { at = at; count = count }

-- each table behind the one before, from a word on
abbrev pub header_from : ℕ → Part → (ℕ → ℕ) → Header
header_from at roots n =
    let channels = at + n 1 * stride_of 1 in
    let meshes = channels + n 2 * stride_of 2 in
    let primitives = meshes + n 3 * stride_of 3 in
    let targets = primitives + n 4 * stride_of 4 in
    let betweens = targets + n 5 * stride_of 5 in
    let skins = betweens + n 6 * stride_of 6 in
    let skeletons = skins + n 7 * stride_of 7 in
    record {
      graph = record { nodes = table_at at (n 1); roots = roots };
      channels = table_at channels (n 2);
      meshes = record {
        meshes = table_at meshes (n 3);
        primitives = table_at primitives (n 4);
        targets = table_at targets (n 5);
        in_betweens = table_at betweens (n 6);
      };
      skins = record { skins = table_at skins (n 7); skeletons = table_at skeletons (n 8) };
    }

-- ---- what the scene form says

abbrev pub scene_form : Document → Form
scene_form d = get_or (forms_of d 0) 0 []

unfoldable pub header_of : Document → Header
header_of d =
    header_from (length (ids_of d)) (table_at 0 (length (items_of (field_at (scene_form d) 2)))) (count_of d)

abbrev pub node_of : Document → ℕ
node_of d = item_of (scene_form d) 0 0

abbrev pub time_of : Document → Float
time_of d = of_bits binary32 (item_of (scene_form d) 1 0)

-- a list of primitives, targets or in-betweens leaves its table
abbrev pub leaves : Document → Bool
leaves d =
    ltb (count_of d 4) (reach_of 3 (forms_of d 3))
    || (ltb (count_of d 5) (reach_of 4 (forms_of d 4)) || ltb (count_of d 6) (reach_of 5 (forms_of d 5)))
