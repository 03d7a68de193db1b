use mathlib.Core.Path.{◌≡◌, sym, ◌∙◌}
use mathlib.Core.Bool.{true, false, ◌&&◌}
use Rattle.model.specs.Lists.{rows_in}
use Rattle.model.specs.Vertices.{skinned}
use Rattle.model.specs.Attributes.{attributes_in}
use Rattle.model.specs.Bake.{placed_shape}
use Rattle.tables.specs.Tags.{is_marked}
use Rattle.tables.specs.Decoded.{span_in, slot_in}
use Rattle.shapes.specs.Rest.{palette_in}
use Rattle.shapes.proofs.Shaping.{reshaped-as, with-influences, without-influences, without-palette}
use Rattle.shapes.proofs.primitives.place_shape.Goals.{in_default-via-in-Some+else-is_influenced, in_default-via-in_default}
use Rattle.shapes.proofs.primitives.place_shape.Goals as goal

pub returns-in-Some-clause-moved : goal.returns-in-Some-clause-moved
returns-in-Some-clause-moved c =
    let a = c.args in
    let v = attributes_in a.out.now.positions.now a.out.now.normals.now a.out.now.tangents.now in
    let joints = rows_in 4 (span_in a.words.now a.row.joints.part 4) in
    let weights = rows_in 4 (span_in a.floats.now a.row.weights.part 4) in
    let palette = rows_in 16 c.in-Some.palette.now in
    let marked : (is_marked a.row.joints.mark && is_marked a.row.weights.mark) ≡ true
    = sym (λ j. c.is_marked.ensures j && c.is_marked-2.ensures j) ∙ c.if-is_influenced.true in
    reshaped-as _ _ _ _ _ _ _ _
    ((λ j. skinned palette (rows_in 4 (c.words_in.ensures j)) (rows_in 4 (c.floats_in.ensures j)) v)
    ∙ sym (with-influences a.world.m v palette joints weights (is_marked a.row.joints.mark) (is_marked a.row.weights.mark) marked)
    ∙ (λ j. placed_shape a.world.m (palette_in (sym c.in-Some.is j)) (slot_in a.words.now a.row.joints 4) (slot_in a.floats.now a.row.weights 4) v))
    c.skinned.ensures.moved

pub returns-in_default-clause-moved : goal.returns-in_default-clause-moved
returns-in_default-clause-moved c =
    let a = c.args in
    let v = attributes_in a.out.now.positions.now a.out.now.normals.now a.out.now.tangents.now in
    let joints = span_in a.words.now a.row.joints.part 4 in
    let weights = span_in a.floats.now a.row.weights.part 4 in
    reshaped-as _ (placed_shape a.world.m (palette_in a.palette) (slot_in a.words.now a.row.joints 4) (slot_in a.floats.now a.row.weights 4) v) _ _ _ _ _ _
    (elim c.in_default.branch [
      | in_default-via-in-Some+else-is_influenced w ↦
          let marked : (is_marked a.row.joints.mark && is_marked a.row.weights.mark) ≡ false
          = sym (λ j. c.is_marked.ensures j && c.is_marked-2.ensures j) ∙ w.if-is_influenced.false in
          sym (without-influences a.world.m v (rows_in 16 w.in-Some.palette.now) (rows_in 4 joints) (rows_in 4 weights) (is_marked a.row.joints.mark) (is_marked a.row.weights.mark) marked)
          ∙ (λ j. placed_shape a.world.m (palette_in (sym w.in-Some.is j)) (slot_in a.words.now a.row.joints 4) (slot_in a.floats.now a.row.weights 4) v)
      | in_default-via-in_default w ↦ sym (without-palette a.world.m v a.palette _ _ w.in_default.not-Some)
    ])
    c.transformed.ensures.moved
