-- An influence added to the matrix of a vertex, and a vertex that is moved by it. Definitions only.
use Rattle.std.specs.Prelude.{◌≡◌, List, [], ◌∷◌, ◌++◌, ℕ, Float}
use Rattle.std.specs.Prelude as rust
use Rattle.std.proofs.Math.Option.{Option}
use Rattle.borrowed.specs.Slices.{Floats}
use Rattle.borrowed.specs.Attributes.{Attributes}
use Rattle.model.specs.Matrix.{Matrix, inverse_transpose}
use Rattle.model.specs.Vertices.{Influence, influences, mixture, by_matrix, affine_point, turned_normal, turned_tangent}
use Rattle.scene.specs.declared.Mat4.{Mat4}
use Rattle.scene.specs.Values.{matrix_of}
use Rattle.vertex_rows.specs.Rows.{row_changed}

-- an influence more, where it counts
pub record Added (palette : List Matrix) (j : ℕ) (w : Float) (sum more : rust.Option Mat4) : Type 0 where
  pub adds : (is : List Influence) → matrix_of sum ≡ mixture is
      → matrix_of more ≡ mixture (is ++ influences palette (j ∷ []) (w ∷ []))

-- normal and tangent v after a vertex is turned by a matrix
pub record Turned (m : Matrix) (v : ℕ) (lent_normals left_normals lent_tangents left_tangents : List Float) : Type 0 where
  pub normals : left_normals ≡ row_changed 3 (turned_normal (inverse_transpose m)) v lent_normals
  pub tangents : left_tangents ≡ row_changed 4 (turned_tangent m) v lent_tangents

-- in the slices that are borrowed
abbrev pub TurnedIn : Matrix → ℕ → Floats → Floats → Type 0
TurnedIn m v normals tangents =
    Turned m v normals.entry.now normals.exit.now tangents.entry.now tangents.exit.now

-- vertex v after it is moved by its matrix, if it has one
pub record Skinned (o : Option Matrix) (v : ℕ)
    (lent_positions left_positions lent_normals left_normals lent_tangents left_tangents : List Float) : Type 0 where
  pub positions : left_positions ≡ row_changed 3 (by_matrix affine_point o) v lent_positions
  pub normals : left_normals ≡ row_changed 3 (by_matrix (λ m y. turned_normal (inverse_transpose m) y) o) v lent_normals
  pub tangents : left_tangents ≡ row_changed 4 (by_matrix turned_tangent o) v lent_tangents

abbrev pub SkinnedIn : Option Matrix → ℕ → Attributes → Type 0
SkinnedIn o v out =
    Skinned o v out.entry.now.positions.now out.exit.now.positions.now
    out.entry.now.normals.now out.exit.now.normals.now out.entry.now.tangents.now out.exit.now.tangents.now
