-- The inverse of an affine matrix, worked out in f64 and narrowed (`mat4_affine_inverse` of scene.rs), and the normal
-- matrix that comes of it. Definitions only.
use Rattle.std.specs.Prelude.{List, [], ◌∷◌, ◌++◌, map, Bool, not, ◌&&◌, ◌||◌, ℕ, ◌+◌, Float}
use Rattle.std.proofs.Math.Option.{Option, none}
use Rattle.std.specs.Float.{binary32}
use Rattle.std.specs.Float.Ieee.{neg, lt, sub}
use Rattle.std.specs.Float.Ieee.Scale.{finite}
use Rattle.float.specs.F32.{f32, one32}
use Rattle.float.specs.F64.{◌⊕◌, ◌⊖◌, ◌⊗◌, ◌⊘◌, one64}
use Rattle.float.specs.Narrow.{narrow_of}
use Rattle.model.specs.Lists.{pick, every, map_some}
use Rattle.model.specs.Vector.{Vector, at}
use Rattle.model.specs.Matrix.{Matrix, entry, linear, bottom_row, invertible, when_finite}

-- more than 1e-6 from 0
abbrev pub apart : Float → Bool
apart x = lt (f32 0x3586_37bd) x || lt x (neg (f32 0x3586_37bd))

-- all entries are finite, and the bottom row is (0, 0, 0, 1) to within 1e-6
abbrev pub affine : Matrix → Bool
affine m =
    every finite m
    && not
    (apart (entry m 3 0) || apart (entry m 3 1) || apart (entry m 3 2) || apart (sub binary32 (entry m 3 3) one32))

-- the nine cofactors of a linear part, row by row
unfoldable pub cofactors64 : List Float → List Float
cofactors64 l =
    let a = at l 0 in let b = at l 1 in let c = at l 2 in
    let d = at l 3 in let e = at l 4 in let f = at l 5 in
    let g = at l 6 in let h = at l 7 in let i = at l 8 in
    (e ⊗ i ⊖ f ⊗ h) ∷ neg (d ⊗ i ⊖ f ⊗ g) ∷ (d ⊗ h ⊖ e ⊗ g)
    ∷ neg (b ⊗ i ⊖ c ⊗ h) ∷ (a ⊗ i ⊖ c ⊗ g) ∷ neg (a ⊗ h ⊖ b ⊗ g)
    ∷ (b ⊗ f ⊖ c ⊗ e) ∷ neg (a ⊗ f ⊖ c ⊗ d) ∷ (a ⊗ e ⊖ b ⊗ d) ∷ []

-- the determinant by the first row and its cofactors
unfoldable pub determinant64 : List Float → List Float → Float
determinant64 l c = at l 0 ⊗ at c 0 ⊕ at l 1 ⊗ at c 1 ⊕ at l 2 ⊗ at c 2

-- column j of nine numbers row by row
abbrev pub column3 : List Float → ℕ → Vector
column3 c j = at c j ∷ at c (3 + j) ∷ at c (6 + j) ∷ []

-- a row of the inverse, from a column of the cofactors, r = 1 / determinant and the translation: the column times r,
-- and the translation undone
unfoldable pub inverse_row : Vector → Float → Vector → Vector
inverse_row v r t =
    let x = at v 0 ⊗ r in let y = at v 1 ⊗ r in let z = at v 2 ⊗ r in
    x ∷ y ∷ z ∷ neg (x ⊗ at t 0 ⊕ y ⊗ at t 1 ⊕ z ⊗ at t 2) ∷ []

-- the inverse from the cofactors, r and the translation, narrowed
unfoldable pub inverse_from : List Float → Float → Vector → Matrix
inverse_from c r t =
    let row : ℕ → Vector = λ j. inverse_row (column3 c j) r t in
    map narrow_of (row 0 ++ row 1 ++ row 2) ++ bottom_row

abbrev pub translation_of : Matrix → Vector
translation_of m = entry m 0 3 ∷ entry m 1 3 ∷ entry m 2 3 ∷ []

-- the inverse, if the matrix is affine, its determinant is finite and not 0, and every entry is finite once narrowed
unfoldable pub affine_inverse : Matrix → Option Matrix
affine_inverse m =
    let c = cofactors64 (linear m) in
    let d = determinant64 (linear m) c in
    pick (affine m && invertible d) (when_finite (inverse_from c (one64 ⊘ d) (translation_of m))) none

-- the linear part, transposed
abbrev pub transposed : Matrix → List Float
transposed n =
    entry n 0 0 ∷ entry n 1 0 ∷ entry n 2 0
    ∷ entry n 0 1 ∷ entry n 1 1 ∷ entry n 2 1
    ∷ entry n 0 2 ∷ entry n 1 2 ∷ entry n 2 2 ∷ []

-- the normal matrix of vertices that are transformed: the linear part of the inverse, transposed
unfoldable pub normal_matrix : Matrix → Option (List Float)
normal_matrix m = map_some transposed (affine_inverse m)
