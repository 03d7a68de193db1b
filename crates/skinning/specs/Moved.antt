-- Vertices that are moved by the matrices of their joints. Definitions only.
use Rattle.std.specs.Prelude.{◌≡◌, List, ℕ, ◌+◌, ◌*◌, ◌/◌, Float, length}
use Rattle.borrowed.specs.Attributes.{Attributes}
use Rattle.model.specs.Lists.{rows_in}
use Rattle.model.specs.Vector.{Vector}
use Rattle.model.specs.Matrix.{Matrix, inverse_transpose}
use Rattle.model.specs.Vertices.{joint_matrix, by_matrix, affine_point, turned_normal, turned_tangent}
use Rattle.vertex_rows.specs.declared.influences.Influences.{Influences}
use Rattle.vertex_rows.specs.Rows.{first_rows}
use Rattle.transform.specs.Blocks.{rows_from}

-- a normal by a matrix
abbrev pub normal_by : Matrix → Vector → Vector
normal_by m y = turned_normal (inverse_transpose m) y

-- n vertices from vertex k on after they are moved by the matrices of their joints
pub record MovedFrom (palette : List Matrix) (joints : List (List ℕ)) (weights : List Vector) (k n : ℕ)
    (lent_positions left_positions lent_normals left_normals lent_tangents left_tangents : List Float) : Type 0 where
  pub positions :
      left_positions
      ≡ rows_from 3 (λ i. by_matrix affine_point (joint_matrix palette joints weights (k + i))) k lent_positions n
  pub normals :
      left_normals
      ≡ rows_from 3 (λ i. by_matrix normal_by (joint_matrix palette joints weights (k + i))) k lent_normals n
  pub tangents :
      left_tangents
      ≡ rows_from 4 (λ i. by_matrix turned_tangent (joint_matrix palette joints weights (k + i))) k lent_tangents n

-- in the slices that are borrowed: sixteen floats a joint, four joints and four weights a vertex
abbrev pub MovesFrom : Influences → ℕ → ℕ → Attributes → Type 0
MovesFrom by k n out =
    MovedFrom (rows_in 16 by.palette.now) (rows_in 4 by.joints.now) (rows_in 4 by.weights.now) k n
    out.entry.now.positions.now out.exit.now.positions.now
    out.entry.now.normals.now out.exit.now.normals.now
    out.entry.now.tangents.now out.exit.now.tangents.now

-- the first n
pub record FirstMoved (palette : List Matrix) (joints : List (List ℕ)) (weights : List Vector) (n : ℕ)
    (lent_positions left_positions lent_normals left_normals lent_tangents left_tangents : List Float) : Type 0 where
  pub positions :
      left_positions ≡ first_rows 3 (λ i. by_matrix affine_point (joint_matrix palette joints weights i)) lent_positions n
  pub normals :
      left_normals ≡ first_rows 3 (λ i. by_matrix normal_by (joint_matrix palette joints weights i)) lent_normals n
  pub tangents :
      left_tangents ≡ first_rows 4 (λ i. by_matrix turned_tangent (joint_matrix palette joints weights i)) lent_tangents n

-- all that stand in whole blocks of sixteen
abbrev pub MovesBlocks : Influences → Attributes → Type 0
MovesBlocks by out =
    FirstMoved (rows_in 16 by.palette.now) (rows_in 4 by.joints.now) (rows_in 4 by.weights.now)
    (length out.entry.now.positions.now / 3 / 16 * 16)
    out.entry.now.positions.now out.exit.now.positions.now
    out.entry.now.normals.now out.exit.now.normals.now
    out.entry.now.tangents.now out.exit.now.tangents.now
