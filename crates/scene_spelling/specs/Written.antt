-- The document of a lent scene, which the writer spells: every record of every table, used or not, in its order, with
-- the node and the time that are asked for (docs/TEXT.md). Definitions only.
use Rattle.std.specs.Prelude.{List, [], ◌∷◌, map, Bool, not, ℕ, eqb, Float}
use Rattle.std.proofs.Math.Option.{none, some}
use Rattle.std.specs.Float.{binary32}
use Rattle.std.specs.Float.Ieee.{to_bits}
use Rattle.model.specs.Lists.{pick, tabulate}
use Rattle.tracks.specs.declared.Part.{Part}
use Rattle.tables.specs.declared.Reference.{Reference}
use Rattle.tables.specs.declared.Slot.{Slot}
use Rattle.tables.specs.declared.NodeRow.{NodeRow}
use Rattle.tables.specs.declared.ChannelRow.{ChannelRow}
use Rattle.tables.specs.declared.MeshRow.{MeshRow}
use Rattle.tables.specs.declared.PrimitiveRow.{PrimitiveRow}
use Rattle.tables.specs.declared.TargetRow.{TargetRow}
use Rattle.tables.specs.declared.InBetweenRow.{InBetweenRow}
use Rattle.tables.specs.declared.SkinRow.{SkinRow}
use Rattle.tables.specs.declared.SkeletonRow.{SkeletonRow}
use Rattle.tables.specs.Records.{node_row, channel_row, mesh_row, primitive_row, target_row, in_between_row, skin_row}
use Rattle.tables.specs.Records.{skeleton_row}
use Rattle.tables.specs.Tags.{is_marked}
use Rattle.tables.specs.Decoded.{Lent, span_in}
use Rattle.grammar.specs.Forms.{Field, Form, Document}

-- ---- fields

-- nan as 7fc00000
abbrev pub bits_of : List Float → List ℕ
bits_of xs = map (to_bits binary32) xs

abbrev pub one : ℕ → Field
one x = some (x ∷ [])

-- a list of records, the first and how many
abbrev pub listed : Part → Field
listed p = some (p.at ∷ p.count ∷ [])

abbrev pub there : Bool → List ℕ → Field
there b xs = pick b (some xs) none

abbrev pub id_field : Reference → Field
id_field r = there (is_marked r.mark) (r.id ∷ [])

abbrev pub numbers_field : List ℕ → Part → ℕ → Field
numbers_field words p width = some (span_in words p width)

abbrev pub floats_field : List Float → Part → ℕ → Field
floats_field floats p width = some (bits_of (span_in floats p width))

abbrev pub slot_field : List Float → Slot → ℕ → Field
slot_field floats s width = there (is_marked s.mark) (bits_of (span_in floats s.part width))

-- a word for a tag: it is there where the tag is n
abbrev pub tag_field : ℕ → ℕ → Field
tag_field tag n = there (eqb tag n) []

-- ---- forms: of the slices that they need, and of a record

abbrev pub from : ℕ → ℕ → Part
from at count = record { at = at; count = count }

abbrev pub scene_form : List ℕ → Part → ℕ → Float → Form
scene_form words roots node time = one node ∷ one (to_bits binary32 time) ∷ numbers_field words roots 1 ∷ []

-- the base transform: translation, rotation and scale, or a matrix
abbrev pub parts_field : List Float → ℕ → ℕ → Field
parts_field floats form base = there (eqb form 0) (bits_of (span_in floats (from base 10) 1))

abbrev pub matrix_field : List Float → ℕ → ℕ → Field
matrix_field floats form base = there (not (eqb form 0)) (bits_of (span_in floats (from base 16) 1))

abbrev pub node_form : List ℕ → List Float → List Float → NodeRow → Form
node_form words floats node_weights r =
    parts_field floats r.form r.base
    ∷ matrix_field floats r.form r.base
    ∷ numbers_field words r.children 1
    ∷ id_field r.mesh
    ∷ id_field r.skin
    ∷ slot_field node_weights r.weights 1
    ∷ []

-- the values, where they are of the kind that is asked for, in entries of so many floats
abbrev pub values_field : List Float → ℕ → Part → ℕ → ℕ → Field
values_field floats kind values asked width = there (eqb kind asked) (bits_of (span_in floats values width))

abbrev pub channel_form : List Float → ChannelRow → Form
channel_form floats r =
    one r.target
    ∷ tag_field r.property 0
    ∷ tag_field r.property 1
    ∷ tag_field r.property 2
    ∷ tag_field r.property 3
    ∷ tag_field r.interpolation 0
    ∷ tag_field r.interpolation 1
    ∷ tag_field r.interpolation 2
    ∷ floats_field floats r.keys 1
    ∷ values_field floats r.kind r.values 0 3
    ∷ values_field floats r.kind r.values 1 4
    ∷ values_field floats r.kind r.values 2 1
    ∷ []

abbrev pub mesh_form : List Float → MeshRow → Form
mesh_form mesh_weights r = listed r.primitives ∷ floats_field mesh_weights r.weights 1 ∷ []

abbrev pub joints_field : List ℕ → Slot → Field
joints_field words s = there (is_marked s.mark) (span_in words s.part 4)

abbrev pub primitive_form : List ℕ → List Float → PrimitiveRow → Form
primitive_form words floats r =
    floats_field floats r.positions 3
    ∷ slot_field floats r.normals 3
    ∷ slot_field floats r.tangents 4
    ∷ joints_field words r.joints
    ∷ slot_field floats r.weights 4
    ∷ listed r.targets
    ∷ []

abbrev pub target_form : List Float → TargetRow → Form
target_form floats r =
    slot_field floats r.positions 3
    ∷ slot_field floats r.normals 3
    ∷ slot_field floats r.tangents 3
    ∷ listed r.in_betweens
    ∷ []

abbrev pub in_between_form : List Float → InBetweenRow → Form
in_between_form floats r =
    floats_field floats (from r.weight 1) 1
    ∷ slot_field floats r.positions 3
    ∷ slot_field floats r.normals 3
    ∷ []

abbrev pub skin_form : SkinRow → Form
skin_form r = one r.skeleton ∷ id_field r.root ∷ []

abbrev pub skeleton_form : List ℕ → List Float → SkeletonRow → Form
skeleton_form words floats r = numbers_field words r.joints 1 ∷ floats_field floats r.inverse_binds 16 ∷ []

-- ---- the whole

unfoldable pub document_of : Lent → ℕ → Float → Document
document_of l node time =
    let h = l.header in
    (scene_form l.words h.graph.roots node time ∷ [])
    ∷ tabulate h.graph.nodes.count
    (λ i. node_form l.words l.floats l.node_weights (node_row l.words h.graph.nodes i))
    ∷ tabulate h.channels.count (λ i. channel_form l.floats (channel_row l.words h.channels i))
    ∷ tabulate h.meshes.meshes.count (λ i. mesh_form l.mesh_weights (mesh_row l.words h.meshes.meshes i))
    ∷ tabulate h.meshes.primitives.count
    (λ i. primitive_form l.words l.floats (primitive_row l.words h.meshes.primitives i))
    ∷ tabulate h.meshes.targets.count (λ i. target_form l.floats (target_row l.words h.meshes.targets i))
    ∷ tabulate h.meshes.in_betweens.count
    (λ i. in_between_form l.floats (in_between_row l.words h.meshes.in_betweens i))
    ∷ tabulate h.skins.skins.count (λ i. skin_form (skin_row l.words h.skins.skins i))
    ∷ tabulate h.skins.skeletons.count
    (λ i. skeleton_form l.words l.floats (skeleton_row l.words h.skins.skeletons i))
    ∷ []
