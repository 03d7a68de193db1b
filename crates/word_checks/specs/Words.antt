-- What is asked of each word of a record of a lent scene, in the order of the words: beside the word stands the number
-- that it draws, 1 where what it places leaves its table, 2 where it is over a limit, 0 where it is right
-- (docs/TABLES.md). Definitions only.
use Rattle.std.specs.Prelude as rust
use Rattle.std.specs.Prelude.{Bool, true, List, [], ◌∷◌, ◌++◌, ℕ, ◌+◌, eqb, ltb, leb}
use Rattle.model.specs.Lists.{pick}
use Rattle.model.specs.Limits.{child_entry_limit, key_limit, weight_limit, joint_limit, primitive_limit, vertex_limit}
use Rattle.model.specs.Limits.{target_limit, in_between_limit}
use Rattle.model.specs.Sampling.{width, factor}
use Rattle.model.specs.Refusals.{is_scalars}
use Rattle.refusals.specs.declared.Refusal.{Refusal}
use Rattle.refusals.specs.Drawn.{number_of}
use Rattle.tracks.specs.declared.Part.{Part}
use Rattle.tracks.specs.declared.Track.{Track}
use Rattle.tracks.specs.Values.{interpolation_of, kind_of}
use Rattle.tracks.specs.Tracks.{even_stride}
use Rattle.tables.specs.declared.Slot.{Slot}
use Rattle.tables.specs.declared.NodeRow.{NodeRow}
use Rattle.tables.specs.declared.ChannelRow.{ChannelRow}
use Rattle.tables.specs.declared.MeshRow.{MeshRow}
use Rattle.tables.specs.declared.PrimitiveRow.{PrimitiveRow}
use Rattle.tables.specs.declared.TargetRow.{TargetRow}
use Rattle.tables.specs.declared.InBetweenRow.{InBetweenRow}
use Rattle.tables.specs.declared.SkinRow.{SkinRow}
use Rattle.tables.specs.declared.SkeletonRow.{SkeletonRow}
use Rattle.tables.specs.Records.{node_row, channel_row, mesh_row, primitive_row, target_row, in_between_row, skin_row}
use Rattle.tables.specs.Records.{skeleton_row}
use Rattle.tables.specs.Tags.{is_marked, track_for}
use Rattle.row_checks.specs.declared.Sizes.{Sizes}
use Rattle.row_checks.specs.Places.{fits_in, base_floats}
use Rattle.row_checks.specs.Bounds.{is_known}
use Rattle.checks.specs.declared.Table.{Table}
use Rattle.checks.specs.declared.Table.TheVariants as table
use Rattle.checks.specs.Drawn.{drawn, lower_of}

-- ---- words

-- a word of a record, and the number that it draws
pub record Asked : Type 0 where
  pub word : ℕ
  pub number : ℕ

-- 1 where something leaves its table, 2 where it is not within its limit
abbrev pub leaves : Bool → ℕ
leaves fits = drawn fits true

abbrev pub over : Bool → ℕ
over within = drawn true within

abbrev pub asks : ℕ → ℕ → Asked
asks word number = record { word = word; number = number }

-- a part at two words, of at most so many entries: where it starts, and its count
abbrev pub part_asked : ℕ → Part → ℕ → ℕ → ℕ → List Asked
part_asked w p width len limit = asks w (leaves (fits_in p width len)) ∷ asks (w + 1) (over (leb p.count limit)) ∷ []

-- vertices that may be absent, at three words: their mark, and where it is not 0 their part
unfoldable pub slot_asked : ℕ → Slot → ℕ → ℕ → List Asked
slot_asked w s width len =
    pick (is_marked s.mark)
    (asks w (over (is_known s.mark 1)) ∷ part_asked (w + 1) s.part width len vertex_limit)
    []

-- ---- records

abbrev pub base_asked : Sizes → NodeRow → List Asked
base_asked s r =
    asks 0 (over (is_known r.form 1))
    ∷ asks 1 (leaves (fits_in (record { at = r.base; count = base_floats r.form }) 1 s.floats))
    ∷ []

-- a node's own weights may be absent, and their count has no limit
unfoldable pub held_asked : Slot → ℕ → List Asked
held_asked weights len =
    pick (is_marked weights.mark)
    (asks 8 (over (is_known weights.mark 1)) ∷ asks 9 (leaves (fits_in weights.part 1 len)) ∷ [])
    []

-- the child entries are those of the nodes up to and with this one
unfoldable pub node_asked : Sizes → NodeRow → ℕ → List Asked
node_asked s r entries =
    base_asked s r
    ++ (asks 2 (leaves (fits_in r.children 1 s.words))
    ∷ asks 3 (over (leb entries child_entry_limit))
    ∷ asks 4 (over (is_known r.mesh.mark 1))
    ∷ asks 6 (over (is_known r.skin.mark 1))
    ∷ held_asked r.weights s.node_weights)

-- few enough weights a frame of an even scalar track, by its counts; not asked of one with too many keys
unfoldable pub frames_within : Track → Bool
frames_within t =
    pick (ltb key_limit t.keys.count) true
    (pick (is_scalars (kind_of t.kind))
    (leb (even_stride t.keys.count t.values.count (factor (interpolation_of t.interpolation))) weight_limit)
    true)

unfoldable pub channel_asked : Sizes → ChannelRow → List Asked
channel_asked s r =
    asks 1 (over (is_known r.property 3))
    ∷ asks 2 (over (is_known r.kind 2))
    ∷ asks 3 (over (is_known r.interpolation 2))
    ∷ (part_asked 4 r.keys 1 s.floats key_limit
    ++ (asks 6 (leaves (fits_in r.values (width (kind_of (track_for r).kind)) s.floats))
    ∷ asks 7 (over (frames_within (track_for r)))
    ∷ []))

unfoldable pub mesh_asked : Sizes → MeshRow → List Asked
mesh_asked s r =
    part_asked 0 r.primitives 1 s.primitives primitive_limit
    ++ (asks 2 (leaves (fits_in r.weights 1 s.mesh_weights)) ∷ [])

unfoldable pub primitive_asked : Sizes → PrimitiveRow → List Asked
primitive_asked s r =
    part_asked 0 r.positions 3 s.floats vertex_limit
    ++ (slot_asked 2 r.normals 3 s.floats
    ++ (slot_asked 5 r.tangents 4 s.floats
    ++ (slot_asked 8 r.joints 4 s.words
    ++ (slot_asked 11 r.weights 4 s.floats
    ++ part_asked 14 r.targets 1 s.targets target_limit))))

unfoldable pub target_asked : Sizes → TargetRow → List Asked
target_asked s r =
    slot_asked 0 r.positions 3 s.floats
    ++ (slot_asked 3 r.normals 3 s.floats
    ++ (slot_asked 6 r.tangents 3 s.floats
    ++ part_asked 9 r.in_betweens 1 s.in_betweens in_between_limit))

unfoldable pub in_between_asked : Sizes → InBetweenRow → List Asked
in_between_asked s r =
    asks 0 (leaves (fits_in (record { at = r.weight; count = 1 }) 1 s.floats))
    ∷ (slot_asked 1 r.positions 3 s.floats ++ slot_asked 4 r.normals 3 s.floats)

unfoldable pub skin_asked : SkinRow → List Asked
skin_asked r = asks 1 (over (is_known r.root.mark 1)) ∷ []

unfoldable pub skeleton_asked : Sizes → SkeletonRow → List Asked
skeleton_asked s r =
    part_asked 0 r.joints 1 s.words joint_limit
    ++ (asks 2 (leaves (fits_in r.inverse_binds 16 s.floats)) ∷ [])

-- record i of a table; of a node by the child entries up to and with it
abbrev pub row_asked : List ℕ → Sizes → Part → Table → ℕ → ℕ → List Asked
row_asked words s t table.Nodes i entries = node_asked s (node_row words t i) entries
row_asked words s t table.Channels i entries = channel_asked s (channel_row words t i)
row_asked words s t table.Meshes i entries = mesh_asked s (mesh_row words t i)
row_asked words s t table.Primitives i entries = primitive_asked s (primitive_row words t i)
row_asked words s t table.Targets i entries = target_asked s (target_row words t i)
row_asked words s t table.InBetweens i entries = in_between_asked s (in_between_row words t i)
row_asked words s t table.Skins i entries = skin_asked (skin_row words t i)
row_asked words s t table.Skeletons i entries = skeleton_asked s (skeleton_row words t i)

-- ---- the first

abbrev pub nothing : Asked
nothing = asks 0 0

-- a word that draws a refusal, or none
abbrev pub word_drawn : Refusal → rust.Option ℕ → Asked
word_drawn n (rust.Some w) = asks w (number_of n)
word_drawn n rust.None = nothing

-- the first word that draws n, or else the one given
unfoldable pub first_asked : ℕ → List Asked → Asked → Asked
first_asked n [] d = d
first_asked n (a ∷ rest) d = pick (eqb a.number n) a (first_asked n rest d)

-- ---- the lowest

-- the lowest number of a list, 0 being none
unfoldable pub lowest_of : {A : Type 0} → (A → ℕ) → List A → ℕ
lowest_of f [] = 0
lowest_of f (x ∷ xs) = lower_of (f x) (lowest_of f xs)

-- the lowest number that a word draws
abbrev pub lowest_asked : List Asked → ℕ
lowest_asked asked = lowest_of (λ (a : Asked). a.number) asked
