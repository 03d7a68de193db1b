-- Vertices that are all moved by one matrix. Definitions only.
use Rattle.std.specs.Prelude.{◌≡◌, List, map, Float}
use Rattle.borrowed.specs.Slices.{Floats}
use Rattle.model.specs.Lists.{rows_in}
use Rattle.model.specs.Matrix.{Matrix}
use Rattle.model.specs.Inverse.{normal_matrix}
use Rattle.model.specs.Vertices.{turned_normal, turned_tangent}
use Rattle.model.specs.Attributes.{over_rows}

-- normals and tangents after all are turned by a matrix
pub record TurnedAll (m : Matrix) (lent_normals left_normals lent_tangents left_tangents : List Float) : Type 0 where
  pub normals : left_normals ≡ over_rows 3 (map (turned_normal (normal_matrix m)) (rows_in 3 lent_normals)) lent_normals
  pub tangents : left_tangents ≡ over_rows 4 (map (turned_tangent m) (rows_in 4 lent_tangents)) lent_tangents

-- in the slices that are borrowed
abbrev pub TurnsAll : Matrix → Floats → Floats → Type 0
TurnsAll m normals tangents =
    TurnedAll m normals.entry.now normals.exit.now tangents.entry.now tangents.exit.now
