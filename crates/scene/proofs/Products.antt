-- The entries of m plus w times n. Assumes nothing.
use mathlib.Core.Path.{◌≡◌, ap, ◌∙◌}
use Prim.Native.Nat.{ℕ, ◌<◌}
use native.Mathlib.Omega.{arith}
use lib.Ieee.{Float, nan}
use lib.ListN.{length, get_or, length-map, get_or-map}
use Rattle.float.specs.F32.{◌⊕◌, ◌⊗◌}
use Rattle.model.specs.Vector.{◌⊙◌, ◌⊞◌}
use Rattle.model.specs.Matrix.{Matrix}
use Rattle.model.proofs.ListLaws.{length-zip, get_d_zip}

module _ (m : Matrix) (w : Float) (n : Matrix) (e : length m ≡ 16) (f : length n ≡ 16) where
  pub length-madd : length (m ⊞ w ⊙ n) ≡ 16
  length-madd = length-zip ◌⊕◌ m (w ⊙ n) ∙ omega (arith, length-map n (λ (x : Float). w ⊗ x))

  pub madd-entry : (k : ℕ) → k < 16 → get_or (m ⊞ w ⊙ n) k nan ≡ get_or m k nan ⊕ w ⊗ get_or n k nan
  madd-entry k h =
      get_d_zip ◌⊕◌ m (w ⊙ n) k nan (w ⊗ nan) nan (omega arith) (omega (arith, length-map n (λ (x : Float). w ⊗ x)))
      ∙ ap (λ (y : Float). get_or m k nan ⊕ y) (get_or-map (λ (x : Float). w ⊗ x) n k nan)
