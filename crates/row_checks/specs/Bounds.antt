-- Whether the counts, tags and marks of a record are within their limits: number 2 (scope, "Numbers when a piece is
-- turned down"). A tag or mark that names nothing is over size. Definitions only.
use Rattle.std.specs.Prelude.{Bool, true, ◌&&◌, ℕ, leb}
use Rattle.model.specs.Lists.{pick}
use Rattle.model.specs.Limits.{joint_limit, primitive_limit, vertex_limit, target_limit, in_between_limit}
use Rattle.tables.specs.declared.Slot.{Slot}
use Rattle.tables.specs.declared.NodeRow.{NodeRow}
use Rattle.tables.specs.declared.ChannelRow.{ChannelRow}
use Rattle.tables.specs.declared.MeshRow.{MeshRow}
use Rattle.tables.specs.declared.PrimitiveRow.{PrimitiveRow}
use Rattle.tables.specs.declared.TargetRow.{TargetRow}
use Rattle.tables.specs.declared.InBetweenRow.{InBetweenRow}
use Rattle.tables.specs.declared.SkinRow.{SkinRow}
use Rattle.tables.specs.declared.SkeletonRow.{SkeletonRow}
use Rattle.tables.specs.Tags.{is_marked}

-- a tag is one of 0 to the last
abbrev pub is_known : ℕ → ℕ → Bool
is_known tag last = leb tag last

abbrev pub slot_within : Slot → Bool
slot_within s = pick (is_marked s.mark) (is_known s.mark 1 && leb s.part.count vertex_limit) true

abbrev pub node_within : NodeRow → Bool
node_within r =
    is_known r.form 1 && (is_known r.mesh.mark 1 && (is_known r.skin.mark 1 && is_known r.weights.mark 1))

abbrev pub tags_known : ChannelRow → Bool
tags_known r = is_known r.property 3 && (is_known r.kind 2 && is_known r.interpolation 2)

abbrev pub mesh_within : MeshRow → Bool
mesh_within r = leb r.primitives.count primitive_limit

abbrev pub primitive_within : PrimitiveRow → Bool
primitive_within r =
    (leb r.positions.count vertex_limit && (slot_within r.normals && slot_within r.tangents))
    && ((slot_within r.joints && slot_within r.weights) && leb r.targets.count target_limit)

abbrev pub target_within : TargetRow → Bool
target_within r =
    (slot_within r.positions && (slot_within r.normals && slot_within r.tangents))
    && leb r.in_betweens.count in_between_limit

abbrev pub in_between_within : InBetweenRow → Bool
in_between_within r = slot_within r.positions && slot_within r.normals

abbrev pub skin_within : SkinRow → Bool
skin_within r = is_known r.root.mark 1

abbrev pub skeleton_within : SkeletonRow → Bool
skeleton_within r = leb r.joints.count joint_limit
