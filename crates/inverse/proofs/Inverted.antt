-- Inverses and normal matrices, by the results of their parts and tests. Assumes nothing.
use mathlib.Core.Path.{◌≡◌, refl, sym, ap, ◌∙◌}
use mathlib.Core.Bool.{Bool, true, false, ◌&&◌}
use mathlib.Core.List.{List}
use mathlib.Core.Option.{Option, none, some}
use lib.Ieee.{Float, binary32, binary64, div}
use lib.Ieee.Scale.{finite}
use Rattle.float.specs.F32.{one32}
use Rattle.float.specs.F64.{one64}
use Rattle.model.specs.Lists.{pick, every, map_some}
use Rattle.model.specs.Vector.{Vector}
use Rattle.model.specs.Matrix.{Matrix, linear, determinant, cofactors, invertible, when_finite, inverse_transpose}
use Rattle.model.specs.Inverse.{affine, cofactors64, determinant64, inverse_from, translation_of, affine_inverse, transposed, normal_matrix}
use Rattle.scene.specs.Values.{matrix_of}
use Rattle.scene.specs.declared.Mat4.{Mat4}
use Rattle.std.proofs.Common as rust

-- n, if b
abbrev when : Bool → List Float → Option (List Float)
when b n = pick b (some n) none

-- a list that is given where h holds and its numbers are finite, by the results of both tests
both : {g h f : Bool} {n l : List Float} → g ≡ h → n ≡ l → f ≡ every finite n → pick h (when_finite l) none ≡ when (g && f) n
both {g} {h} {f} {n} {l} p q r = sym (λ j. pick (p j) (when ((r ∙ ap (every finite) q) j) (q j)) none) ∙ nested g f
  where
    nested : (a b : Bool) → pick a (when b n) none ≡ when (a && b) n
    nested true b = refl
    nested false b = refl

-- ---- the inverse transpose of m, by its determinant d, the cofactors n times 1 / d, and whether d is invertible and n finite
module _ (m : Matrix) (d : Float) (n : List Float) (i f : Bool)
    (det : d ≡ determinant m) (cof : n ≡ cofactors m (div binary32 one32 d)) (inv : i ≡ invertible d) (fin : f ≡ every finite n) where
  transpose-by : inverse_transpose m ≡ when (i && f) n
  unfolding inverse_transpose
  transpose-by = both (inv ∙ ap invertible det) (cof ∙ ap (λ (x : Float). cofactors m (div binary32 one32 x)) det) fin

  pub is-transposed : (i && f) ≡ true → some n ≡ inverse_transpose m
  is-transposed e = sym (transpose-by ∙ ap (λ (b : Bool). when b n) e)

  pub not-transposed : (i && f) ≡ false → none ≡ inverse_transpose m
  not-transposed e = sym (transpose-by ∙ ap (λ (b : Bool). when b n) e)

-- ---- the inverse of m, by its linear part l, the cofactors c and the determinant d of that, its translation t, the inverse n from these,
-- and whether m is affine, d invertible and n finite
module _ (m : Matrix) (l₀ l c : List Float) (d : Float) (t : Vector) (n : Matrix) (a i f : Bool)
    (lin : l₀ ≡ linear m) (wide : l ≡ l₀) (cof : c ≡ cofactors64 l) (det : d ≡ determinant64 l c)
    (tra : t ≡ translation_of m) (res : n ≡ inverse_from c (div binary64 one64 d) t)
    (aff : a ≡ affine m) (inv : i ≡ invertible d) (fin : f ≡ every finite n) where
  inverse-by : affine_inverse m ≡ when (a && i && f) n
  unfolding affine_inverse
  inverse-by =
      let p = wide ∙ lin in
      let q = cof ∙ ap cofactors64 p in
      let r = det ∙ (λ j. determinant64 (p j) (q j)) in
      let s = inv ∙ ap invertible r in
      both (λ j. aff j && s j) (res ∙ (λ j. inverse_from (q j) (div binary64 one64 (r j)) (tra j))) fin

  pub is_inverse : (a && i && f) ≡ true → some n ≡ affine_inverse m
  is_inverse e = sym (inverse-by ∙ ap (λ (b : Bool). when b n) e)

  pub no-inverse : (a && i && f) ≡ false → none ≡ affine_inverse m
  no-inverse e = sym (inverse-by ∙ ap (λ (b : Bool). when b n) e)

-- ---- the normal matrix, by the inverse i
module _ (m : Matrix) (i : rust.Option Mat4) (inv : matrix_of i ≡ affine_inverse m) where
  pub is_normal : (n : Mat4) → i ≡ rust.Some n → some (transposed n.m) ≡ normal_matrix m
  unfolding normal_matrix
  is_normal n p = ap (map_some transposed) (sym (ap matrix_of p) ∙ inv)

  pub no-normal : i ≡ rust.None → none ≡ normal_matrix m
  unfolding normal_matrix
  no-normal p = ap (map_some transposed) (sym (ap matrix_of p) ∙ inv)
