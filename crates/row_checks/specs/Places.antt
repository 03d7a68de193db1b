-- Whether the parts of a record lie in their tables: number 1 (docs/TABLES.md). Definitions only.
use Rattle.std.specs.Prelude.{Bool, true, ◌&&◌, ℕ, ◌+◌, ◌*◌, leb}
use Rattle.model.specs.Lists.{pick}
use Rattle.tracks.specs.declared.Part.{Part}
use Rattle.tables.specs.declared.Slot.{Slot}
use Rattle.tables.specs.declared.NodeRow.{NodeRow}
use Rattle.tables.specs.declared.MeshRow.{MeshRow}
use Rattle.tables.specs.declared.PrimitiveRow.{PrimitiveRow}
use Rattle.tables.specs.declared.TargetRow.{TargetRow}
use Rattle.tables.specs.declared.InBetweenRow.{InBetweenRow}
use Rattle.tables.specs.declared.SkeletonRow.{SkeletonRow}
use Rattle.tables.specs.Tags.{is_marked}
use Rattle.row_checks.specs.declared.Sizes.{Sizes}

-- rows of so many entries lie in a table of length len
abbrev pub fits_in : Part → ℕ → ℕ → Bool
fits_in p width len = leb (p.at + p.count * width) len

-- of an absent part nothing is asked
abbrev pub slot_fits : Slot → ℕ → ℕ → Bool
slot_fits s width len = pick (is_marked s.mark) (fits_in s.part width len) true

-- sixteen floats of a matrix, or ten: translation, rotation, scale
abbrev pub base_floats : ℕ → ℕ
base_floats form = pick (is_marked form) 16 10

abbrev pub node_fits : Sizes → NodeRow → Bool
node_fits s r =
    fits_in (record { at = r.base; count = base_floats r.form }) 1 s.floats
    && (fits_in r.children 1 s.words && slot_fits r.weights 1 s.node_weights)

abbrev pub mesh_fits : Sizes → MeshRow → Bool
mesh_fits s r = fits_in r.primitives 1 s.primitives && fits_in r.weights 1 s.mesh_weights

abbrev pub primitive_fits : Sizes → PrimitiveRow → Bool
primitive_fits s r =
    (fits_in r.positions 3 s.floats
    && (slot_fits r.normals 3 s.floats && slot_fits r.tangents 4 s.floats))
    && ((slot_fits r.joints 4 s.words && slot_fits r.weights 4 s.floats)
    && fits_in r.targets 1 s.targets)

abbrev pub target_fits : Sizes → TargetRow → Bool
target_fits s r =
    (slot_fits r.positions 3 s.floats
    && (slot_fits r.normals 3 s.floats && slot_fits r.tangents 3 s.floats))
    && fits_in r.in_betweens 1 s.in_betweens

abbrev pub in_between_fits : Sizes → InBetweenRow → Bool
in_between_fits s r =
    fits_in (record { at = r.weight; count = 1 }) 1 s.floats
    && (slot_fits r.positions 3 s.floats && slot_fits r.normals 3 s.floats)

abbrev pub skeleton_fits : Sizes → SkeletonRow → Bool
skeleton_fits s r = fits_in r.joints 1 s.words && fits_in r.inverse_binds 16 s.floats
