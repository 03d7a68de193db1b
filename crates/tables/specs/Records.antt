-- What the records of a lent scene say, word by word (docs/TABLES.md). A table starts at a word and has so many records
-- of a fixed number of words; a word that is not there reads as 0. Definitions only.
use Rattle.std.specs.Prelude.{List, ℕ, ◌+◌, ◌*◌, get_or}
use Rattle.tracks.specs.declared.Part.{Part}
use Rattle.tables.specs.declared.Reference.{Reference}
use Rattle.tables.specs.declared.Slot.{Slot}
use Rattle.tables.specs.declared.NodeRow.{NodeRow}
use Rattle.tables.specs.declared.ChannelRow.{ChannelRow}
use Rattle.tables.specs.declared.MeshRow.{MeshRow}
use Rattle.tables.specs.declared.PrimitiveRow.{PrimitiveRow}
use Rattle.tables.specs.declared.TargetRow.{TargetRow}
use Rattle.tables.specs.declared.InBetweenRow.{InBetweenRow}
use Rattle.tables.specs.declared.SkinRow.{SkinRow}
use Rattle.tables.specs.declared.SkeletonRow.{SkeletonRow}

-- ---- a field: the words, the table, the words of a record, which record, which word of it

unfoldable pub word_of : List ℕ → Part → ℕ → ℕ → ℕ → ℕ
word_of words t stride i k = get_or words (t.at + i * stride + k) 0

-- the table of a record that stands alone
abbrev pub alone : Part
alone = record { at = 0; count = 1 }

abbrev pub part_of : List ℕ → Part → ℕ → ℕ → ℕ → Part
part_of words t stride i k = record { at = word_of words t stride i k; count = word_of words t stride i (k + 1) }

abbrev pub slot_of : List ℕ → Part → ℕ → ℕ → ℕ → Slot
slot_of words t stride i k = record { mark = word_of words t stride i k; part = part_of words t stride i (k + 1) }

abbrev pub reference_of : List ℕ → Part → ℕ → ℕ → ℕ → Reference
reference_of words t stride i k = record { mark = word_of words t stride i k; id = word_of words t stride i (k + 1) }

-- ---- the words of a record

abbrev pub node_words : ℕ
node_words = 16

abbrev pub channel_words : ℕ
channel_words = 8

abbrev pub mesh_words : ℕ
mesh_words = 4

abbrev pub primitive_words : ℕ
primitive_words = 16

abbrev pub target_words : ℕ
target_words = 12

abbrev pub in_between_words : ℕ
in_between_words = 8

abbrev pub skin_words : ℕ
skin_words = 4

abbrev pub skeleton_words : ℕ
skeleton_words = 4

-- ---- the records; words of a record that are not named are not read

abbrev pub node_row : List ℕ → Part → ℕ → NodeRow
node_row words t i = record {
  form = word_of words t node_words i 0;
  base = word_of words t node_words i 1;
  children = part_of words t node_words i 2;
  mesh = reference_of words t node_words i 4;
  skin = reference_of words t node_words i 6;
  weights = slot_of words t node_words i 8;
}

abbrev pub channel_row : List ℕ → Part → ℕ → ChannelRow
channel_row words t i = record {
  target = word_of words t channel_words i 0;
  property = word_of words t channel_words i 1;
  kind = word_of words t channel_words i 2;
  interpolation = word_of words t channel_words i 3;
  keys = part_of words t channel_words i 4;
  values = part_of words t channel_words i 6;
}

abbrev pub mesh_row : List ℕ → Part → ℕ → MeshRow
mesh_row words t i = record { primitives = part_of words t mesh_words i 0; weights = part_of words t mesh_words i 2 }

abbrev pub primitive_row : List ℕ → Part → ℕ → PrimitiveRow
primitive_row words t i = record {
  positions = part_of words t primitive_words i 0;
  normals = slot_of words t primitive_words i 2;
  tangents = slot_of words t primitive_words i 5;
  joints = slot_of words t primitive_words i 8;
  weights = slot_of words t primitive_words i 11;
  targets = part_of words t primitive_words i 14;
}

abbrev pub target_row : List ℕ → Part → ℕ → TargetRow
target_row words t i = record {
  positions = slot_of words t target_words i 0;
  normals = slot_of words t target_words i 3;
  tangents = slot_of words t target_words i 6;
  in_betweens = part_of words t target_words i 9;
}

abbrev pub in_between_row : List ℕ → Part → ℕ → InBetweenRow
in_between_row words t i = record {
  weight = word_of words t in_between_words i 0;
  positions = slot_of words t in_between_words i 1;
  normals = slot_of words t in_between_words i 4;
}

abbrev pub skin_row : List ℕ → Part → ℕ → SkinRow
skin_row words t i = record { skeleton = word_of words t skin_words i 0; root = reference_of words t skin_words i 1 }

abbrev pub skeleton_row : List ℕ → Part → ℕ → SkeletonRow
skeleton_row words t i = record {
  joints = part_of words t skeleton_words i 0;
  inverse_binds = part_of words t skeleton_words i 2;
}
