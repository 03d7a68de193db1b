-- What the numbers of a transform that are handed in or out say. Definitions only.
use Rattle.std.specs.Prelude.{ℕ, zero, suc}
use Rattle.model.specs.Vector.{Vector}
use Rattle.model.specs.Matrix.{Matrix}
use Rattle.model.specs.Transform.{Trs, Transform, parts, matrix}

abbrev pub trs_of : Vector → Vector → Vector → Trs
trs_of t r s = record { translation = t; rotation = r; scale = s }

-- the mark 0 chooses the parts, any other the matrix
abbrev pub chosen : ℕ → Trs → Matrix → Transform
chosen zero p m = parts p
chosen (suc k) p m = matrix m
