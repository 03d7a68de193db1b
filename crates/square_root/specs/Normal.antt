-- The numbers whose roots are taken together, a block at a time. Definitions only.
use Rattle.std.specs.Prelude.{ℕ, Bool, true, false, ◌&&◌, List, [], ◌∷◌, Float}
use Rattle.std.specs.Float.Ieee.{le, lt}
use Rattle.float.specs.F32.{f32}

-- 2 ^ -126, the smallest f32 that is no subnormal
abbrev pub smallest_normal : Float
smallest_normal = f32 0x0080_0000

-- the f32 nearest to 10 ^ 37
abbrev pub ten_to37 : Float
ten_to37 = f32 0x7cf0_bdc2

-- no subnormal, above 0 and below 10 ^ 37
abbrev pub is_normal : Float → Bool
is_normal x = le smallest_normal x && lt x ten_to37

unfoldable pub all_normal : List Float → Bool
all_normal [] = true
all_normal (x ∷ xs) = is_normal x && all_normal xs

-- 0 for true, 1 for false
abbrev pub one_unless : Bool → ℕ
one_unless true = 0
one_unless false = 1
