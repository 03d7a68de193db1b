-- Directions that begin the rows of a slice, turned in blocks of sixteen. Definitions only.
use Rattle.std.specs.Prelude.{◌≡◌, List, ◌++◌, ℕ, zero, suc, ◌+◌, ◌<◌, Float, take, drop}
use Rattle.model.specs.Lists.{tabulate, row, or_else}
use Rattle.model.specs.Vector.{Vector, dot, norm, normalized}
use Rattle.model.specs.Vertices.{turned_unit}
use Rattle.vertex_rows.specs.Rows.{row_changed}

-- the first three floats of a row by a linear part; the others as they are
unfoldable pub xyz_turned : List Float → Vector → Vector
xyz_turned l v = turned_unit l (take 3 v) ++ drop 3 v

-- a row that begins with x instead
unfoldable pub begun : Vector → Vector → Vector
begun x v = x ++ drop 3 v

-- with the direction d divided by its length, if it has one
unfoldable pub unit_over : Vector → Vector → Vector
unit_over d v = begun (or_else (normalized d) (take 3 v)) v

-- a slice with n rows from row k on changed, row k + i by f i, one after the other
unfoldable pub rows_from : ℕ → (ℕ → Vector → Vector) → ℕ → List Float → ℕ → List Float
rows_from w f k l zero = l
rows_from w f k l (suc n) = row_changed w (f n) (k + n) (rows_from w f k l n)

-- the first n of the vectors that lie in d, three floats each, are those of f
pub record Packed (n : ℕ) (f : ℕ → Vector) (d : List Float) : Type 0 where
  pub each : (i : ℕ) → i < n → row 3 d i ≡ f i

-- the squares of the lengths of sixteen such vectors, and the lengths
unfoldable pub squares_of : List Float → List Float
squares_of d = tabulate 16 (λ i. dot (row 3 d i) (row 3 d i))

unfoldable pub lengths_of : List Float → List Float
lengths_of d = tabulate 16 (λ i. norm (row 3 d i))
