-- Numbers in text: decimal without leading zeros, and floats as the eight lower-case hexadecimal digits of their bits
-- (request 2026-01, docs/TEXT.md). Definitions only.
use Rattle.std.specs.Prelude.{Bool, true, false, List, [], ◌∷◌, ◌++◌, ℕ, zero, suc, ◌+◌, ◌/◌, ◌%◌, ltb}
use Rattle.model.specs.Lists.{pick}

-- 0 to 9, then a to f
abbrev pub hex_digit : ℕ → ℕ
hex_digit d = pick (ltb d 10) (48 + d) (87 + d)

-- the last k digits of n
unfoldable pub last_digits : ℕ → ℕ → ℕ → List ℕ
last_digits base zero n = []
last_digits base (suc k) n = last_digits base k (n / base) ++ (hex_digit (n % base) ∷ [])

-- how many decimal digits n has, if they are at most k + 1
unfoldable pub places : ℕ → ℕ → ℕ
places zero n = 1
places (suc k) n = pick (ltb n 10) 1 (suc (places k (n / 10)))

-- what the items of a field are: whole numbers, or the bits of floats
pub data Sort : Type 0 where
  numbers floats : Sort

abbrev pub sort_for : Bool → Sort
sort_for true = floats
sort_for false = numbers

abbrev pub base_of : Sort → ℕ
base_of numbers = 10
base_of floats = 16

-- a number below 2^32 has at most ten decimal digits
abbrev pub digits_of : Sort → ℕ → List ℕ
digits_of numbers n = last_digits 10 (places 9 n) n
digits_of floats n = last_digits 16 8 n

-- a list of items, each behind a space
unfoldable pub items_text : Sort → List ℕ → List ℕ
items_text s [] = []
items_text s (x ∷ xs) = 32 ∷ digits_of s x ++ items_text s xs
