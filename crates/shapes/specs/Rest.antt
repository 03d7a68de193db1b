-- The attributes of a primitive at rest, as they lie in the lent floats, and how many floats a mesh puts out.
-- Definitions only.
use Rattle.std.specs.Prelude as rust
use Rattle.std.specs.Prelude.{◌≡◌, List, [], map, true, ℕ, ◌+◌, ◌*◌, ◌≤◌, ◌<◌, Float, length}
use Rattle.std.specs.Borrow.{Bor}
use Rattle.std.proofs.Math.Option.{Option, none, some}
use Rattle.std.proofs.Math.Seq.{paste}
use Rattle.borrowed.specs.Slices.{SharedFloats, Floats}
use Rattle.model.specs.Limits.{primitive_limit}
use Rattle.model.specs.Lists.{pick, joined, rows_in}
use Rattle.model.specs.Matrix.{Matrix}
use Rattle.model.specs.Scene as scene
use Rattle.model.specs.Vertices.{Shape}
use Rattle.model.specs.Attributes.{attributes_in, Reshaped}
use Rattle.model.specs.Bake.{Output, baked_primitive, output_of, written}
use Rattle.tracks.specs.declared.Part.{Part}
use Rattle.tables.specs.declared.Lent as code
use Rattle.tables.specs.declared.Slot.{Slot}
use Rattle.tables.specs.declared.PrimitiveRow.{PrimitiveRow}
use Rattle.tables.specs.Records.{primitive_row}
use Rattle.tables.specs.Tags.{is_marked}
use Rattle.tables.specs.Decoded.{Lent, span_in, records_in, primitive_of}
use Rattle.row_checks.specs.Places.{fits_in, slot_fits}
use Rattle.row_checks.specs.Bounds.{primitive_within}
use Rattle.checks.specs.Drawn.{sum_below, lent_as}
use Rattle.shapes.specs.declared.Lengths.{Lengths}

-- an attribute that is absent has no floats
abbrev pub slot_floats : List Float → Slot → ℕ → List Float
slot_floats floats s width = pick (is_marked s.mark) (span_in floats s.part width) []

-- the attributes themselves
abbrev pub attributes_at : List Float → PrimitiveRow → scene.Primitive
attributes_at floats r =
    attributes_in (span_in floats r.positions 3) (slot_floats floats r.normals 3) (slot_floats floats r.tangents 4)

-- three slices that are as long as the attributes
pub record Sized (floats : List Float) (r : PrimitiveRow) (p n t : List Float) : Type 0 where
  pub positions : length p ≡ length (span_in floats r.positions 3)
  pub normals : length n ≡ length (slot_floats floats r.normals 3)
  pub tangents : length t ≡ length (slot_floats floats r.tangents 4)

-- three slices that hold them
pub record AtRest (floats : List Float) (r : PrimitiveRow) (p n t : List Float) : Type 0 where
  pub positions : p ≡ span_in floats r.positions 3
  pub normals : n ≡ slot_floats floats r.normals 3
  pub tangents : t ≡ slot_floats floats r.tangents 4

-- three slices that hold a shape in the place of the attributes
abbrev pub ShapedAs : Shape → List Float → PrimitiveRow → Floats → Floats → Floats → Type 0
ShapedAs s floats r positions normals tangents =
    Reshaped s (span_in floats r.positions 3) positions.exit.now
    (slot_floats floats r.normals 3) normals.exit.now
    (slot_floats floats r.tangents 4) tangents.exit.now

-- the palette, if there is one
abbrev pub palette_in : rust.Option (Bor (List Float)) → Option (List Matrix)
palette_in (rust.Some floats) = some (rows_in 16 floats.now)
palette_in rust.None = none

-- the primitives of a mesh
abbrev pub primitives_in : Lent → Part → List scene.Primitive
primitives_in l m = records_in (λ i. primitive_of l (primitive_row l.words l.header.meshes.primitives i)) m

-- a primitive that is blended with weights, and placed by a world and a palette, if there is one
abbrev pub baked_as : code.Lent → PrimitiveRow → SharedFloats → Matrix → rust.Option (Bor (List Float)) → Shape
baked_as l row weights world palette =
    baked_primitive world (palette_in palette) weights.entry.now
    (primitive_of (lent_as l.words.now l.floats.now [] [] l.header) row)

-- all primitives of a mesh
abbrev pub baked_mesh : code.Lent → Part → SharedFloats → Matrix → rust.Option (Bor (List Float)) → Output
baked_mesh l m weights world palette =
    output_of (map (baked_primitive world (palette_in palette) weights.entry.now)
    (primitives_in (lent_as l.words.now l.floats.now [] [] l.header) m))

-- ---- how many floats: three a position or normal, four a tangent

abbrev pub slot_count : Slot → ℕ
slot_count s = pick (is_marked s.mark) s.part.count 0

abbrev pub row_lengths : PrimitiveRow → Lengths
row_lengths r = record {
  positions = r.positions.count * 3;
  normals = slot_count r.normals * 3;
  tangents = slot_count r.tangents * 4;
}

abbrev pub plus_lengths : Lengths → Lengths → Lengths
plus_lengths a b = record {
  positions = a.positions + b.positions;
  normals = a.normals + b.normals;
  tangents = a.tangents + b.tangents;
}

-- at most so many floats of each
pub record AtMost (n : Lengths) (positions normals tangents : ℕ) : Type 0 where
  pub position-room : n.positions ≤ positions
  pub normal-room : n.normals ≤ normals
  pub tangent-room : n.tangents ≤ tangents

-- record k of those that a part of the table names: a mesh's primitives
abbrev pub row_at : List ℕ → Part → Part → ℕ → PrimitiveRow
row_at words t m k = primitive_row words t (m.at + k)

-- the first n of them
abbrev pub lengths_below : List ℕ → Part → Part → ℕ → Lengths
lengths_below words t m n = record {
  positions = sum_below n (λ k. (row_lengths (row_at words t m k)).positions);
  normals = sum_below n (λ k. (row_lengths (row_at words t m k)).normals);
  tangents = sum_below n (λ k. (row_lengths (row_at words t m k)).tangents);
}

-- ---- a mesh whose primitives are within their limits, and lie in their tables

pub record Counted (words : List ℕ) (t m : Part) : Type 0 where
  pub count : m.count ≤ primitive_limit
  pub last : m.at + m.count ≤ t.count
  pub within : (k : ℕ) → k < m.count → primitive_within (row_at words t m k) ≡ true

-- the attributes of a primitive lie in the floats
pub record RowFits (floats : List Float) (r : PrimitiveRow) : Type 0 where
  pub positions : fits_in r.positions 3 (length floats) ≡ true
  pub normals : slot_fits r.normals 3 (length floats) ≡ true
  pub tangents : slot_fits r.tangents 4 (length floats) ≡ true

pub record Drawable (words : List ℕ) (floats : List Float) (t m : Part) : Type 0 where
  pub counted : Counted words t m
  pub fits : (k : ℕ) → k < m.count → RowFits floats (row_at words t m k)

-- the outputs after a mesh is put out at their start
pub record PutOut (o : Output)
    (lent_positions left_positions lent_normals left_normals lent_tangents left_tangents : List Float) : Type 0 where
  pub positions : left_positions ≡ written o.positions lent_positions
  pub normals : left_normals ≡ written o.normals lent_normals
  pub tangents : left_tangents ≡ written o.tangents lent_tangents

abbrev pub PutsOut : Output → Floats → Floats → Floats → Type 0
PutsOut o positions normals tangents =
    PutOut o positions.entry.now positions.exit.now normals.entry.now normals.exit.now
    tangents.entry.now tangents.exit.now

-- the outputs after a primitive is put out from a given place on
pub record PutAt (s : Shape) (at n : Lengths)
    (lent_positions left_positions lent_normals left_normals lent_tangents left_tangents : List Float) : Type 0 where
  pub positions : left_positions ≡ paste lent_positions at.positions (joined (λ v. v) s.positions) n.positions
  pub normals : left_normals ≡ paste lent_normals at.normals (joined (λ v. v) s.normals) n.normals
  pub tangents : left_tangents ≡ paste lent_tangents at.tangents (joined (λ v. v) s.tangents) n.tangents

abbrev pub PutsAt : Shape → Lengths → Lengths → Floats → Floats → Floats → Type 0
PutsAt s at n positions normals tangents =
    PutAt s at n positions.entry.now positions.exit.now normals.entry.now normals.exit.now
    tangents.entry.now tangents.exit.now
