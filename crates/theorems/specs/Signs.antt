-- The sign of a float, and the lengths that a matrix is split into: scope, "The pose". Definitions only.
use Rattle.std.specs.Prelude.{◌≡◌, Bool, false, Float, length}
use Rattle.std.specs.Float.{nan, inf, fin}
use Rattle.std.specs.Float.Ieee.{lt}
use Rattle.float.specs.F32.{zero32}
use Rattle.model.specs.Matrix.{Matrix}
use Rattle.model.specs.Transform.{split}
use Rattle.model.specs.Agree.{Each}

-- the sign is set: a number below zero, -0 or the lower infinity; a NaN has no sign here
abbrev pub signed : Float → Bool
signed nan = false
signed (inf s) = s
signed (fin s m e) = s

-- a length: not below zero, and not -0 either
abbrev pub IsLength : Float → Type 0
IsLength x = (lt x zero32 ≡ false) × (signed x ≡ false)

-- the scale that a matrix is split into: three lengths
abbrev pub LengthsOf : Matrix → Type 0
LengthsOf m = (length (split m).scale ≡ 3) × Each IsLength (split m).scale
