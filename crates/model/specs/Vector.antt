-- Vectors of any number of components, as lists of f32 values: three for a point or a direction, four for a quaternion
-- (x, y, z, w).
-- Every operation is rounded, and sums run from the left. Definitions only.
use mathlib.Core.List.{List, [], ◌∷◌, map, zip_with}
use Rattle.std.specs.Prelude.{Bool, ◌&&◌, ℕ, Float, get_or}
use Rattle.std.proofs.Math.Option.{Option, none, some}
use Rattle.std.specs.Float.{nan, binary32}
use Rattle.std.specs.Float.Ieee.{neg, lt}
use Rattle.std.specs.Float.Ieee.Scale.{finite}
use Rattle.float.specs.F32.{◌⊕◌, ◌⊗◌, ◌⊘◌, zero32}
use Rattle.float.specs.Sqrt.{sqrt_of}
use Rattle.model.specs.Lists.{pick, foldl}

infixl 70 ◌⊙◌
infixl 65 ◌⊞◌
abbrev pub Vector : Type 0
Vector = List Float

-- component k; one that is not there reads as NaN
abbrev pub at : Vector → ℕ → Float
at v k = get_or v k nan

-- a vector times a number, divided by one, and negated
abbrev pub ◌⊙◌ : Float → Vector → Vector
s ⊙ v = map (λ x. s ⊗ x) v

abbrev pub over : Vector → Float → Vector
over v s = map (λ x. x ⊘ s) v

abbrev pub negated : Vector → Vector
negated v = map neg v

-- the sum of two vectors, component by component
abbrev pub ◌⊞◌ : Vector → Vector → Vector
v ⊞ w = zip_with ◌⊕◌ v w

-- the sum of the components, from the left
unfoldable pub total : Vector → Float
total [] = zero32
total (x ∷ xs) = foldl ◌⊕◌ x xs

unfoldable pub dot : Vector → Vector → Float
dot v w = total (zip_with ◌⊗◌ v w)

unfoldable pub norm : Vector → Float
norm v = sqrt_of binary32 (dot v v)

-- divided by its length, where that is finite and above 0
unfoldable pub normalized : Vector → Option Vector
normalized v = let n = norm v in pick (finite n && lt zero32 n) (some (over v n)) none
