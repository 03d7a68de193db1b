-- The three outputs (the scope's sheets) of a bake in bytes. Definitions only.
use Rattle.std.specs.Prelude.{◌≡◌, List, ℕ, ◌*◌, ◌≤◌, Float, length}
use Rattle.borrowed.specs.Slices.{Words, Change}
use Rattle.model.specs.Bake.{Output}
use Rattle.wire.specs.Bytes.{bytes_of}
use Rattle.lent_bytes.specs.Bytes.{starting_with}
use Rattle.byte_baking.specs.declared.VertexBytes.{VertexBytes}

pub record ByteOutput : Type 0 where
  pub positions : List ℕ
  pub normals : List ℕ
  pub tangents : List ℕ

abbrev pub byte_output : Words → Words → Words → Change ByteOutput
byte_output positions normals tangents = record {
  from = record {
    positions = positions.entry.now;
    normals = normals.entry.now;
    tangents = tangents.entry.now;
  };
  to = record {
    positions = positions.exit.now;
    normals = normals.exit.now;
    tangents = tangents.exit.now;
  };
}

-- the same where they are lent as one
abbrev pub output_of : VertexBytes → ByteOutput
output_of v = record { positions = v.positions.now; normals = v.normals.now; tangents = v.tangents.now }

abbrev pub output_lent : VertexBytes → VertexBytes → Change ByteOutput
output_lent old new = record { from = output_of old; to = output_of new }

-- they are the slices that they were
abbrev pub SameBytes : VertexBytes → VertexBytes → Type 0
SameBytes old new =
    (new.positions.ghost_name ≡ old.positions.ghost_name) × (new.normals.ghost_name ≡ old.normals.ghost_name)
    × (new.tangents.ghost_name ≡ old.tangents.ghost_name)

-- floats at the start of a slice of bytes
abbrev pub with_floats : List Float → List ℕ → List ℕ
with_floats floats lent = starting_with (bytes_of floats) lent

abbrev pub with_output : Output → ByteOutput → ByteOutput
with_output o lent = record {
  positions = with_floats o.positions lent.positions;
  normals = with_floats o.normals lent.normals;
  tangents = with_floats o.tangents lent.tangents;
}

-- n floats are there, and the bytes have room for them
pub record Fits (n : ℕ) (floats : List Float) (bytes : List ℕ) : Type 0 where
  pub there : n ≤ length floats
  pub room : 4 * n ≤ length bytes
