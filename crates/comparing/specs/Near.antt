-- Floats that are near each other. Definitions only.
use Rattle.std.specs.Prelude.{Bool, ◌&&◌, ◌||◌, eqb, Float}
use Rattle.std.specs.Float.{binary32}
use Rattle.std.specs.Float.Ieee.{to_bits, lt, neg}
use Rattle.float.specs.F64.{◌⊖◌}

-- equal bits, all NaNs being one
abbrev pub same_bits : Float → Float → Bool
same_bits x y = eqb (to_bits binary32 x) (to_bits binary32 y)

-- equal bits, or less than `most` apart
abbrev pub near_by : Float → Float → Float → Bool
near_by x y most = same_bits x y || (lt (x ⊖ y) most && lt (neg most) (x ⊖ y))
