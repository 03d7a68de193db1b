-- Deltas between two stations, read from their slots as they lie. Definitions only.
use mathlib.Core.List.{List, [], ◌∷◌, zip_with}
use Rattle.std.specs.Prelude.{ℕ, Float, get_or}
use Rattle.float.specs.F32.{◌⊖◌, zero32}
use Rattle.model.specs.Lists.{rows_in}
use Rattle.model.specs.Vector.{Vector, ◌⊙◌, ◌⊞◌}

-- row i; zeros where there is no whole one
abbrev pub row_or_zeros : List Float → ℕ → Vector
row_or_zeros l i = get_or (rows_in 3 l) i (zero32 ∷ zero32 ∷ zero32 ∷ [])

-- a + t (b - a) of two rows
abbrev pub mixed_in : Float → List Float → List Float → ℕ → Vector
mixed_in t low high i = row_or_zeros low i ⊞ t ⊙ zip_with ◌⊖◌ (row_or_zeros high i) (row_or_zeros low i)
