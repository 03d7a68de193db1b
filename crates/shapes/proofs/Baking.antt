-- A primitive blended and placed in slices that held it at rest. Assumes nothing.
use mathlib.Core.Path.{◌≡◌, refl, sym, ap, ◌∙◌, subst}
use mathlib.Core.Bool.{Bool, true, false}
use mathlib.Core.List.{List, []}
use mathlib.Core.Option.{Option, none, some}
use Prim.Native.Nat.{◌/◌}
use lib.Ieee.{Float}
use lib.ListN.{length}
use Rattle.model.specs.Lists.{pick, tabulate, rows_in, or_else}
use Rattle.model.specs.Matrix.{Matrix}
use Rattle.model.specs.Scene.{Primitive}
use Rattle.model.specs.Morph.{with_targets}
use Rattle.model.specs.Vertices.{Shape}
use Rattle.model.specs.Attributes.{attributes_in, shape_of, over_rows, Reshaped}
use Rattle.model.specs.Bake.{placed_shape, baked_primitive}
use Rattle.model.proofs.Rowwise.{row_count, rows-in, rows-over, over-again}
use Rattle.tables.specs.declared.Slot.{Slot}
use Rattle.tables.specs.declared.PrimitiveRow.{PrimitiveRow}
use Rattle.tables.specs.Records.{target_row}
use Rattle.tables.specs.Tags.{is_marked}
use Rattle.tables.specs.Decoded.{Lent, span_in, slot_in, primitive_of}
use Rattle.shapes.specs.Rest.{slot_floats}
use Rattle.mesh.proofs.Sizes.{targets-sized, all-lent-rows}
use Rattle.shapes.proofs.Shaping.{placed_alike, Rowed, placed-rowed}
use Rattle.shapes.proofs.Morphing.{bare_of, morphed-bare, morphed-keeps}

-- an attribute that is absent has no rows
slot-rows3 : (floats : List Float) (s : Slot) → or_else (slot_in floats s 3) [] ≡ rows_in 3 (slot_floats floats s 3)
unfolding rows_in tabulate
slot-rows3 floats s = go (is_marked s.mark)
  where
    go : (b : Bool) → or_else (pick b (some (rows_in 3 (span_in floats s.part 3))) none) [] ≡ rows_in 3 (pick b (span_in floats s.part 3) [])
    go true = refl
    go false = refl

slot-rows4 : (floats : List Float) (s : Slot) → or_else (slot_in floats s 4) [] ≡ rows_in 4 (slot_floats floats s 4)
unfolding rows_in tabulate
slot-rows4 floats s = go (is_marked s.mark)
  where
    go : (b : Bool) → or_else (pick b (some (rows_in 4 (span_in floats s.part 4))) none) [] ≡ rows_in 4 (pick b (span_in floats s.part 4) [])
    go true = refl
    go false = refl

module _ (l : Lent) (r : PrimitiveRow) where
  abbrev p₀ : List Float
  p₀ = span_in l.floats r.positions 3

  abbrev n₀ : List Float
  n₀ = slot_floats l.floats r.normals 3

  abbrev t₀ : List Float
  t₀ = slot_floats l.floats r.tangents 4

  rest-is : bare_of (shape_of (primitive_of l r)) ≡ attributes_in p₀ n₀ t₀
  rest-is = λ j. record {
    positions = rows_in 3 p₀;
    normals = some (slot-rows3 l.floats r.normals j);
    tangents = some (slot-rows4 l.floats r.tangents j);
    joints = none;
    weights = none;
    targets = [];
  }

  module _ (ws : List Float) where
    -- the blended vertices
    abbrev blended : Shape
    blended = shape_of (with_targets (primitive_of l r).targets ws (attributes_in p₀ n₀ t₀))

    blended-is : shape_of (with_targets (primitive_of l r).targets ws (primitive_of l r)) ≡ blended
    blended-is =
        morphed-bare (primitive_of l r).targets ws (primitive_of l r)
        ∙ ap (λ (q : Primitive). shape_of (with_targets (primitive_of l r).targets ws q)) rest-is

    pub baked-as : (m : Matrix) (palette : Option (List Matrix)) → baked_primitive m palette ws (primitive_of l r) ≡ placed_shape m palette (slot_in l.words r.joints 4) (slot_in l.floats r.weights 4) (bare_of blended)
    unfolding baked_primitive
    baked-as m palette =
        let q = with_targets (primitive_of l r).targets ws (primitive_of l r) in
        let k = morphed-keeps (primitive_of l r).targets ws (primitive_of l r) in
        (λ j. placed_shape m palette (k.joints j) (k.weights j) q)
        ∙ placed_alike q (bare_of blended) blended-is m palette (slot_in l.words r.joints 4) (slot_in l.floats r.weights 4)

    blended-rowed : Rowed blended (length p₀ / 3) (length n₀ / 3) (length t₀ / 4)
    blended-rowed =
        let s = targets-sized (primitive_of l r).targets ws (attributes_in p₀ n₀ t₀) (length p₀ / 3) (length n₀ / 3) (length t₀ / 4)
        (all-lent-rows l (λ i. target_row l.words l.header.meshes.targets i) r.targets)
        (record { positions = (rows-in 3 p₀, row_count 3 p₀); normals = (rows-in 3 n₀, row_count 3 n₀); tangents = (rows-in 4 t₀, row_count 4 t₀) }) in
        record {
          positions = s.positions.0;
          normals = s.normals.0;
          tangents = s.tangents.0;
          position-count = s.positions.1;
          normal-count = s.normals.1;
          tangent-count = s.tangents.1;
        }

    pub baked-rowed : (m : Matrix) (palette : Option (List Matrix)) → Rowed (baked_primitive m palette ws (primitive_of l r)) (length p₀ / 3) (length n₀ / 3) (length t₀ / 4)
    baked-rowed m palette =
        subst (λ (s : Shape). Rowed s (length p₀ / 3) (length n₀ / 3) (length t₀ / 4)) (sym (baked-as m palette))
        (placed-rowed (bare_of blended) (length p₀ / 3) (length n₀ / 3) (length t₀ / 4) blended-rowed m palette (slot_in l.words r.joints 4) (slot_in l.floats r.weights 4))

    module _ (m : Matrix) (palette : Option (List Matrix)) (p₁ n₁ t₁ p₂ n₂ t₂ : List Float) where
      pub baked : Reshaped blended p₀ p₁ n₀ n₁ t₀ t₁
          → Reshaped (placed_shape m palette (slot_in l.words r.joints 4) (slot_in l.floats r.weights 4) (attributes_in p₁ n₁ t₁)) p₁ p₂ n₁ n₂ t₁ t₂
          → Reshaped (baked_primitive m palette ws (primitive_of l r)) p₀ p₂ n₀ n₂ t₀ t₂
      baked a b =
          let k = blended-rowed in
          let again : shape_of (attributes_in p₁ n₁ t₁) ≡ blended
          = λ j. record {
            positions = (ap (rows_in 3) a.positions ∙ rows-over 3 blended.positions p₀ k.positions k.position-count) j;
            normals = (ap (rows_in 3) a.normals ∙ rows-over 3 blended.normals n₀ k.normals k.normal-count) j;
            tangents = (ap (rows_in 4) a.tangents ∙ rows-over 4 blended.tangents t₀ k.tangents k.tangent-count) j;
          } in
          let e : placed_shape m palette (slot_in l.words r.joints 4) (slot_in l.floats r.weights 4) (attributes_in p₁ n₁ t₁) ≡ baked_primitive m palette ws (primitive_of l r)
          = placed_alike (attributes_in p₁ n₁ t₁) (bare_of blended) again m palette (slot_in l.words r.joints 4) (slot_in l.floats r.weights 4) ∙ sym (baked-as m palette) in
          record {
            positions = b.positions ∙ (λ j. over_rows 3 (e j).positions (a.positions j)) ∙ over-again 3 blended.positions p₀ k.positions k.position-count _;
            normals = b.normals ∙ (λ j. over_rows 3 (e j).normals (a.normals j)) ∙ over-again 3 blended.normals n₀ k.normals k.normal-count _;
            tangents = b.tangents ∙ (λ j. over_rows 4 (e j).tangents (a.tangents j)) ∙ over-again 4 blended.tangents t₀ k.tangents k.tangent-count _;
          }
