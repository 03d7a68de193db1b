-- Matrices in a flat slice. Definitions only.
use Rattle.std.specs.Prelude.{◌≡◌, Bool, List, ℕ, ◌+◌, leb, Float, length, replicate}
use Rattle.std.proofs.Math.Seq.{paste}
use Rattle.float.specs.F32.{zero32}
use Rattle.model.specs.Lists.{pick, part}
use Rattle.model.specs.Matrix.{Matrix}

-- sixteen numbers lie in s from `at` on
abbrev pub fits_at : List Float → ℕ → Bool
fits_at s at = leb (at + 16) (length s)

-- the matrix there, or zeros
unfoldable pub matrix_in : List Float → ℕ → Matrix
matrix_in s at = pick (fits_at s at) (part s at 16) (replicate 16 zero32)

-- the slice after a matrix was put there, and whether it was
pub record Stored (lent : List Float) (at : ℕ) (m : Matrix) (left : List Float) (done : Bool) : Type 0 where
  pub told : done ≡ fits_at lent at
  pub slice : left ≡ pick (fits_at lent at) (paste lent at m 16) lent
