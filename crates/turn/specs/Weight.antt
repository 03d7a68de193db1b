-- The turn weight W(v, c), operation by operation as code runs it in f64 (scope, "The sampled value"). Definitions
-- only.
use Rattle.std.specs.Prelude.{false, ℕ, zero, suc, ◌+◌, ◌*◌, pos, negsuc, Float}
use Rattle.std.specs.Float.{fin, binary64}
use Rattle.std.specs.Float.Ieee.{of_int}
use Rattle.float.specs.F64.{◌⊕◌, ◌⊖◌, ◌⊗◌, ◌⊘◌}
use Rattle.float.specs.Narrow.{narrow_of}

-- A whole number as an f64, as the 1, i·i and i·(2i+1) of scope, "The sampled value".
abbrev pub int : ℕ → Float
int n = of_int binary64 (pos n)

-- Scope, "The sampled value": G = 1 + ((i·i - v·v)·(1-c) / (i·(2i+1)))·G, with vv for v·v, d for 1-c and g for the G on
-- the right.
unfoldable pub step : ℕ → Float → Float → Float → Float
step i vv d g = int 1 ⊕ ((int (i * i) ⊖ vv) ⊗ d ⊘ int (i * (2 * i + 1))) ⊗ g

-- Scope, "The sampled value": the steps "for i from 40 down to 1", here from n down.
unfoldable pub steps : ℕ → Float → Float → Float → Float
steps zero vv d g = g
steps (suc n) vv d g = steps n vv d (step (suc n) vv d g)

-- Scope, "The sampled value": v·G, with G = 1 before the forty steps.
unfoldable pub series : Float → Float → Float
series v c = v ⊗ steps 40 (v ⊗ v) (int 1 ⊖ c) (int 1)

-- Scope, "The sampled value": W(v, c) is v·G rounded to f32, ties to even.
unfoldable pub weight : Float → Float → Float
weight v c = narrow_of (series v c)

-- 0, the lower end of v and c in scope, "The sampled value".
abbrev pub zero_f : Float
zero_f = fin false 0 (pos 0)

-- 1, the upper end of v and c in scope, "The sampled value".
abbrev pub one_f : Float
one_f = fin false 1 (pos 0)

-- 1/2, the c of the worked values W(0, c) = 0 and W(1, c) = 1.
abbrev pub half_f : Float
half_f = fin false 1 (negsuc 0)
