-- Matrices: sixteen f32 values row by row, the translation in the fourth column. (glTF 2.0, 3.6.2 stores them column by
-- column.) The order of operations is that of scene.rs, skinning.rs and transform.rs. Definitions only.
use Rattle.std.specs.Prelude.{List, [], ◌∷◌, ◌++◌, Bool, not, ◌&&◌, ℕ, ◌+◌, ◌*◌, ◌/◌, ◌%◌, get_or, take, Float}
use Rattle.std.proofs.Math.Option.{Option, none, some}
use Rattle.std.specs.Float.{nan}
use Rattle.std.specs.Float.Ieee.{eq}
use Rattle.std.specs.Float.Ieee.Scale.{finite}
use Rattle.float.specs.F32.{◌⊕◌, ◌⊖◌, ◌⊗◌, ◌⊘◌, zero32, one32}
use Rattle.model.specs.Lists.{pick, every, tabulate, row}
use Rattle.model.specs.Vector.{Vector, dot}

abbrev pub Matrix : Type 0
Matrix = List Float

-- the number in row i and column j
abbrev pub entry : Matrix → ℕ → ℕ → Float
entry m i j = get_or m (i * 4 + j) nan

abbrev pub row_of : Matrix → ℕ → Vector
row_of m i = entry m i 0 ∷ entry m i 1 ∷ entry m i 2 ∷ entry m i 3 ∷ []

abbrev pub column : Matrix → ℕ → Vector
column m j = entry m 0 j ∷ entry m 1 j ∷ entry m 2 j ∷ entry m 3 j ∷ []

abbrev pub bottom_row : Vector
bottom_row = zero32 ∷ zero32 ∷ zero32 ∷ one32 ∷ []

abbrev pub identity : Matrix
identity =
    one32 ∷ zero32 ∷ zero32 ∷ zero32
    ∷ zero32 ∷ one32 ∷ zero32 ∷ zero32
    ∷ zero32 ∷ zero32 ∷ one32 ∷ zero32
    ∷ bottom_row

-- the product: row times column (`mat4_mul`)
unfoldable pub mul : Matrix → Matrix → Matrix
mul a b = tabulate 16 (λ k. dot (row_of a (k / 4)) (column b (k % 4)))

-- ---- the linear part: the first three rows and columns

-- nine numbers row by row
abbrev pub linear : Matrix → List Float
linear m = take 3 (row_of m 0) ++ take 3 (row_of m 1) ++ take 3 (row_of m 2)

-- a linear part times a vector (`mul3`, `transform_dir`)
unfoldable pub turned : List Float → Vector → Vector
turned l v = dot (row 3 l 0) v ∷ dot (row 3 l 1) v ∷ dot (row 3 l 2) v ∷ []

-- row i of a matrix times a point: the translation is added last
unfoldable pub moved : Matrix → ℕ → Vector → Float
moved m i p = dot (take 3 (row_of m i)) p ⊕ entry m i 3

-- the determinant of the linear part, in f32 (`linear_det`)
unfoldable pub determinant : Matrix → Float
determinant m =
    let a = entry m 0 0 in let b = entry m 0 1 in let c = entry m 0 2 in
    let d = entry m 1 0 in let e = entry m 1 1 in let f = entry m 1 2 in
    let g = entry m 2 0 in let h = entry m 2 1 in let i = entry m 2 2 in
    a ⊗ (e ⊗ i ⊖ f ⊗ h) ⊖ b ⊗ (d ⊗ i ⊖ f ⊗ g) ⊕ c ⊗ (d ⊗ h ⊖ e ⊗ g)

abbrev pub invertible : Float → Bool
invertible det = finite det && not (eq det zero32)

abbrev pub when_finite : List Float → Option (List Float)
when_finite l = pick (every finite l) (some l) none

-- the cofactors of the linear part times r, row by row
unfoldable pub cofactors : Matrix → Float → List Float
cofactors m r =
    let a = entry m 0 0 in let b = entry m 0 1 in let c = entry m 0 2 in
    let d = entry m 1 0 in let e = entry m 1 1 in let f = entry m 1 2 in
    let g = entry m 2 0 in let h = entry m 2 1 in let i = entry m 2 2 in
    (e ⊗ i ⊖ f ⊗ h) ⊗ r ∷ (f ⊗ g ⊖ d ⊗ i) ⊗ r ∷ (d ⊗ h ⊖ e ⊗ g) ⊗ r
    ∷ (c ⊗ h ⊖ b ⊗ i) ⊗ r ∷ (a ⊗ i ⊖ c ⊗ g) ⊗ r ∷ (b ⊗ g ⊖ a ⊗ h) ⊗ r
    ∷ (b ⊗ f ⊖ c ⊗ e) ⊗ r ∷ (c ⊗ d ⊖ a ⊗ f) ⊗ r ∷ (a ⊗ e ⊖ b ⊗ d) ⊗ r ∷ []

-- the normal matrix of skinned vertices: the inverse transpose of the linear part, in f32 (`linear_inverse_transpose`)
unfoldable pub inverse_transpose : Matrix → Option (List Float)
inverse_transpose m = pick (invertible (determinant m)) (when_finite (cofactors m (one32 ⊘ determinant m))) none
