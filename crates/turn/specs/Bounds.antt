-- How near the turn weight is to the exact one (scope, "The sampled value"). Definitions only.
-- The exact weight is sin(v·a) / sin(a) with cos(a) = c. It is the endless sum of v times the products of the ratios
-- ((i² - v²)(1 - c)) / (i(2i + 1)): term k has those for i from 1 to k (Gauss's hypergeometric series, NIST DLMF
-- chapter 15).
use Rattle.std.specs.Prelude.{ℕ, zero, suc, ◌+◌, ◌-◌, ◌*◌, ◌^◌, ◌≤◌, T, Float}
use Rattle.std.specs.Float.Ieee.{le}
use Rattle.std.specs.Float.Ieee.Positive as P
use Rattle.std.specs.Float.Ieee.Scale.{finite}
use Rattle.turn.specs.Weight.{zero_f}

-- The sum of scope, "The sampled value", without its factor v, at v = a / b and c = m / n. From 0 to 1 neither
-- difference below is cut off at 0.
module _ (a b m n : ℕ) where
  -- Ratio i is num i / den i. The numerator (i² - v²)(1 - c), times b² n (scope, "The sampled value").
  unfoldable pub num : ℕ → ℕ
  num i = (i * i * (b * b) - a * a) * (n - m)

  -- The denominator i(2i + 1), times b² n (scope, "The sampled value").
  unfoldable pub den : ℕ → ℕ
  den i = b * b * n * (i * (2 * i + 1))

  -- Term k is top k / bot k: the product of the ratios 1 to k (scope, "The sampled value").
  unfoldable pub top : ℕ → ℕ
  top zero = 1
  top (suc k) = top k * num (suc k)

  -- The denominators' product (scope, "The sampled value").
  unfoldable pub bot : ℕ → ℕ
  bot zero = 1
  bot (suc k) = bot k * den (suc k)

  -- The first k terms, 0 to k - 1, sum up to before k / bot k: a partial sum of scope, "The sampled value".
  unfoldable pub before : ℕ → ℕ
  before zero = 0
  before (suc k) = (before k + top k) * den (suc k)

-- Scope, "The sampled value": the sum of the first k terms at v and c, "as a fraction of whole numbers", is sum_top v c
-- k / sum_bot v c k.
abbrev pub sum_top : Float → Float → ℕ → ℕ
sum_top v c k = P.num v * before (P.num v) (P.den v) (P.num c) (P.den c) k

-- Its denominator, which is above 0 (scope, "The sampled value").
abbrev pub sum_bot : Float → Float → ℕ → ℕ
sum_bot v c k = P.den v * bot (P.num v) (P.den v) (P.num c) (P.den c) k

-- x / y ≤ u / w + 2 ^ -24, for y and w above 0: the "exceeds" and "at least" of scope, "The sampled value".
abbrev pub AtMost : ℕ → ℕ → ℕ → ℕ → Type 0
AtMost x y u w = x * (w * 2 ^ 24) ≤ (u * 2 ^ 24 + w) * y

-- Scope, "The sampled value", of w = W(v, c): no partial sum exceeds w + 2 ^ -24, and the sum of the first 41 terms is
-- at least w - 2 ^ -24.
-- Besides, w is a number from 0 up.
pub record Bounds (v c w : Float) : Type 0 where
  pub number : T (finite w)
  pub not_negative : T (le zero_f w)
  pub upper : (k : ℕ) → AtMost (sum_top v c k) (sum_bot v c k) (P.num w) (P.den w)
  pub lower : AtMost (P.num w) (P.den w) (sum_top v c 41) (sum_bot v c 41)
