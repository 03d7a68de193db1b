-- The tables of both scenes draw nothing, and a bake of node 2 is accepted in both. Assumes nothing.
use mathlib.Core.Path.{◌≡◌, refl, ◌∙◌}
use mathlib.Core.List.{[], zip_with}
use lib.Ieee.{add, sub, mul, div, neg, lt, le, eq, is_nan, of_int, of_bits, round}
use Rattle.float.specs.F32.{zero32}
use Rattle.model.specs.Lists.{foldl, keep, every, any_of, sum_of, tabulate, indexed, joined}
use Rattle.model.specs.Vector.{total, dot}
use Rattle.model.specs.Matrix.{moved, mul as matmul}
use Rattle.model.specs.Transform.{to_matrix, from_trs}
use Rattle.model.specs.Sampling.{rising, in_line, locate_from, locate, lerp, interpolated, value_at, sample}
use Rattle.model.specs.Pose.{given, replaced, poses, posed_over}
use Rattle.model.specs.Placing.{listed, walk, placed_of, trace, order, taken}
use Rattle.model.specs.World.{worlds}
use Rattle.model.specs.Skin.{products}
use Rattle.model.specs.Morph.{with_targets}
use Rattle.model.specs.Vertices.{influences, skinned}
use Rattle.model.specs.Refusals.{first_of, early_number}
use Rattle.model.specs.Bake.{Outcome, placed_shape, baked_primitive, output_of, delivered, judged}
use Rattle.model.specs.Bake.{baked_from, baked_after, bake}
use Rattle.tracks.specs.Tracks.{table_number}
use Rattle.tables.specs.Records.{word_of}
use Rattle.checks.specs.Drawn.{drawn, lower_of, lowest_below, sum_below, node_number, channel_number, mesh_number}
use Rattle.checks.specs.Drawn.{primitive_number, target_number, in_between_number, skin_number, skeleton_number}
use Rattle.checks.specs.Drawn.{whole_number, children_number, listed_number, tables_number}
use Rattle.bake.specs.Baked.{request_of, outcome}
use Rattle.witness.specs.Scenes.{vector, half32, four32, before, after}
use Rattle.witness.specs.Tables.{lent₁, lent₂, room₁, room₂}
use Rattle.witness.proofs.Decoded.{decoded₁, decoded₂}

none-drawn : (tables_number lent₁ ≡ 0) × (tables_number lent₂ ≡ 0)
unfolding table_number word_of drawn lower_of lowest_below sum_below node_number channel_number mesh_number
    primitive_number target_number in_between_number skin_number skeleton_number
    whole_number children_number listed_number tables_number
none-drawn = (refl, refl)

-- one vertex, and four entries taken: three roots and a child
abbrev pub result : Outcome
result = record {
  answer = record { refusal = 0; positions = 3; normals = 0; tangents = 0; taken = 4 };
  output = record { positions = vector four32 zero32 zero32; normals = []; tangents = [] };
}

baked : (bake 0 before (request_of 2 half32 room₁) ≡ result) × (bake 0 after (request_of 2 half32 room₂) ≡ result)
unfolding add sub mul div neg lt le eq is_nan of_int of_bits round
    zip_with foldl keep every any_of sum_of tabulate indexed joined total dot moved matmul to_matrix from_trs
    rising in_line locate_from locate lerp interpolated value_at sample given replaced poses posed_over
    listed walk placed_of trace order taken worlds products with_targets influences skinned
    first_of early_number placed_shape baked_primitive output_of delivered judged baked_from baked_after bake
baked = (refl, refl)

pub accepted₁ : outcome lent₁ 2 half32 room₁ ≡ result
accepted₁ = (λ j. bake (none-drawn.0 j) (decoded₁ j) (request_of 2 half32 room₁)) ∙ baked.0

pub accepted₂ : outcome lent₂ 2 half32 room₂ ≡ result
accepted₂ = (λ j. bake (none-drawn.1 j) (decoded₂ j) (request_of 2 half32 room₂)) ∙ baked.1
