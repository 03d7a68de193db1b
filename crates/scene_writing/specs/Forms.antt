-- The form of a record by the kind of its table: 1 nodes, 2 channels, 3 meshes, 4 primitives, 5 targets, 6 in-betweens,
-- 7 skins, 8 skeletons, as in the schema. Definitions only.
use Rattle.std.specs.Prelude.{List, [], ◌++◌, ℕ, zero, suc}
use Rattle.model.specs.Lists.{tabulate}
use Rattle.tracks.specs.declared.Part.{Part}
use Rattle.tables.specs.declared.Header.{Header}
use Rattle.tables.specs.Records.{node_row, channel_row, mesh_row, primitive_row, target_row, in_between_row, skin_row}
use Rattle.tables.specs.Records.{skeleton_row}
use Rattle.tables.specs.Decoded.{Lent}
use Rattle.grammar.specs.Forms.{Form, forms_text}
use Rattle.scene_schema.specs.Schema.{kind_at}
use Rattle.scene_spelling.specs.Written.{node_form, channel_form, mesh_form, primitive_form, target_form, in_between_form}
use Rattle.scene_spelling.specs.Written.{skin_form, skeleton_form}

-- the table of kind k + 1
abbrev pub table_for : Header → ℕ → Part
table_for h zero = h.graph.nodes
table_for h (suc zero) = h.channels
table_for h (suc (suc zero)) = h.meshes.meshes
table_for h (suc (suc (suc zero))) = h.meshes.primitives
table_for h (suc (suc (suc (suc zero)))) = h.meshes.targets
table_for h (suc (suc (suc (suc (suc zero))))) = h.meshes.in_betweens
table_for h (suc (suc (suc (suc (suc (suc zero)))))) = h.skins.skins
table_for h (suc (suc (suc (suc (suc (suc (suc k))))))) = h.skins.skeletons

-- record i of a table of kind k + 1
abbrev pub form_for : Lent → Part → ℕ → ℕ → Form
form_for l t zero i = node_form l.words l.floats l.node_weights (node_row l.words t i)
form_for l t (suc zero) i = channel_form l.floats (channel_row l.words t i)
form_for l t (suc (suc zero)) i = mesh_form l.mesh_weights (mesh_row l.words t i)
form_for l t (suc (suc (suc zero))) i = primitive_form l.words l.floats (primitive_row l.words t i)
form_for l t (suc (suc (suc (suc zero)))) i = target_form l.floats (target_row l.words t i)
form_for l t (suc (suc (suc (suc (suc zero))))) i = in_between_form l.floats (in_between_row l.words t i)
form_for l t (suc (suc (suc (suc (suc (suc zero)))))) i = skin_form (skin_row l.words t i)
form_for l t (suc (suc (suc (suc (suc (suc (suc k))))))) i =
    skeleton_form l.words l.floats (skeleton_row l.words t i)

-- all records of a table, and of n tables from that of kind k + 1 on
abbrev pub table_text : Lent → ℕ → List ℕ
table_text l k =
    forms_text (kind_at (suc k)) (tabulate (table_for l.header k).count (form_for l (table_for l.header k) k))

unfoldable pub tables_text : Lent → ℕ → ℕ → List ℕ
tables_text l k zero = []
tables_text l k (suc n) = table_text l k ++ tables_text l (suc k) n
