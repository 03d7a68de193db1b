-- Sixteen vertices that are moved with their directions held back. Definitions only.
use Rattle.std.specs.Prelude.{◌≡◌, Bool, true, List, [], ◌∷◌, ℕ, ◌+◌, ◌*◌, ◌/◌, ◌≤◌, ◌<◌, Float, length}
use Rattle.std.proofs.Math.Option.{Option, none, some}
use Rattle.std.specs.Float.Ieee.{lt}
use Rattle.std.proofs.Math.Seq.{paste}
use Rattle.float.specs.F32.{zero32}
use Rattle.borrowed.specs.Slices.{Floats}
use Rattle.borrowed.specs.Attributes.{Attributes}
use Rattle.model.specs.Lists.{pick, part, row, rows_in, and_then, map_some}
use Rattle.model.specs.Vector.{Vector}
use Rattle.model.specs.Matrix.{Matrix, linear, turned, determinant, inverse_transpose}
use Rattle.model.specs.Vertices.{by_matrix, affine_point, joint_matrix}
use Rattle.vertex_rows.specs.declared.influences.Influences.{Influences}
use Rattle.vertex_rows.specs.Rows.{flipped, row_changed}
use Rattle.transform.specs.Blocks.{rows_from, Packed}
use Rattle.skinning.specs.declared.holding.Whole.{Whole}
use Rattle.skinning.specs.declared.holding.Waiting.{Waiting}

abbrev pub zeros : Vector
zeros = zero32 ∷ zero32 ∷ zero32 ∷ []

-- a direction by a linear part; where there is none, one with no length
abbrev pub direction_by : Option (List Float) → Vector → Vector
direction_by none x = zeros
direction_by (some l) x = turned l x

-- a tangent with the handedness that it has under a matrix
unfoldable pub handed : Matrix → Vector → Vector
handed m x = pick (lt (determinant m) zero32) (flipped x) x

-- vector i of those held back, where these are all there
pub record HeldOne (whole : Bool) (i : ℕ) (x : Vector) (lent left : List Float) : Type 0 where
  pub stored : whole ≡ true → left ≡ paste lent (i * 3) x 3

abbrev pub HoldsOne : Bool → ℕ → Vector → Floats → Type 0
HoldsOne whole i x held = HeldOne whole i x held.entry.now held.exit.now

-- what vertex v needs for that
pub record Room (whole : Whole) (v i : ℕ) (normals tangents held_normals held_tangents : List Float) : Type 0 where
  pub has_normal : whole.normals ≡ true → v < length normals / 3
  pub has_tangent : whole.tangents ≡ true → v < length tangents / 4
  pub holds_normal : i * 3 + 3 ≤ length held_normals
  pub holds_tangent : i * 3 + 3 ≤ length held_tangents

-- the directions of vertex v, by its matrix if it has one
pub record Held (whole : Whole) (o : Option Matrix) (v i : ℕ)
    (normals lent_tangents left_tangents lent_n left_n lent_t left_t : List Float) : Type 0 where
  pub tangents : left_tangents ≡ row_changed 4 (by_matrix handed o) v lent_tangents
  pub normal : HeldOne whole.normals i (direction_by (and_then o inverse_transpose) (row 3 normals v)) lent_n left_n
  pub tangent : HeldOne whole.tangents i (direction_by (map_some linear o) (part lent_tangents (v * 4) 3)) lent_t left_t

pub record HeldVertex (whole : Whole) (o : Option Matrix) (v i : ℕ)
    (lent_positions left_positions normals lent_tangents left_tangents lent_n left_n lent_t left_t : List Float) : Type 0 where
  pub positions : left_positions ≡ row_changed 3 (by_matrix affine_point o) v lent_positions
  pub directions : Held whole o v i normals lent_tangents left_tangents lent_n left_n lent_t left_t

abbrev pub HoldsVertex : Whole → Option Matrix → ℕ → ℕ → Attributes → Floats → Floats → Type 0
HoldsVertex whole o v i out n t =
    HeldVertex whole o v i out.entry.now.positions.now out.exit.now.positions.now
    out.entry.now.normals.now out.entry.now.tangents.now out.exit.now.tangents.now
    n.entry.now n.exit.now t.entry.now t.exit.now

-- n vertices from vertex k on
pub record HeldRows (palette : List Matrix) (joints : List (List ℕ)) (weights : List Vector) (whole : Whole) (k n : ℕ)
    (lent_positions left_positions normals lent_tangents left_tangents held_normals held_tangents : List Float)
    : Type 0 where
  pub positions :
      left_positions
      ≡ rows_from 3 (λ i. by_matrix affine_point (joint_matrix palette joints weights (k + i))) k lent_positions n
  pub tangents :
      left_tangents ≡ rows_from 4 (λ i. by_matrix handed (joint_matrix palette joints weights (k + i))) k lent_tangents n
  pub normal : whole.normals ≡ true
      → Packed n (λ i. direction_by (and_then (joint_matrix palette joints weights (k + i)) inverse_transpose)
      (row 3 normals (k + i))) held_normals
  pub tangent : whole.tangents ≡ true
      → Packed n (λ i. direction_by (map_some linear (joint_matrix palette joints weights (k + i)))
      (part lent_tangents ((k + i) * 4) 3)) held_tangents

-- sixteen, in the slices that are borrowed
abbrev pub HoldsBlock : Influences → Whole → ℕ → Attributes → Waiting → Type 0
HoldsBlock by whole k out held =
    HeldRows (rows_in 16 by.palette.now) (rows_in 4 by.joints.now) (rows_in 4 by.weights.now)
    whole k 16 out.entry.now.positions.now out.exit.now.positions.now
    out.entry.now.normals.now out.entry.now.tangents.now out.exit.now.tangents.now held.normals held.tangents
