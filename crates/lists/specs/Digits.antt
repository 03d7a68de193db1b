-- Hexadecimal digits, in bytes, as numbers. Definitions only.
use Rattle.std.specs.Prelude.{◌≡◌, Bool, true, ◌&&◌, ◌||◌, List, ℕ, zero, suc, ◌+◌, ◌*◌, ◌/◌, ◌%◌, leb, eqb, get_or, length, take, drop, Option, Some, None}
use Rattle.std.specs.Option.{option_map}
use Rattle.model.specs.Lists.{pick}

-- of 0 to 9 and of letters, small or large, their value; of any other byte some number below 16
abbrev pub digit_of : ℕ → ℕ
digit_of b = (b % 16 + 9 * (b / 64)) % 16

-- what so many digits from a place on spell, no more than the last sixteen of them; past the text they are 0
unfoldable pub spelled : List ℕ → ℕ → ℕ → ℕ
spelled s from zero = 0
spelled s from (suc k) = spelled s from k % 0x1000_0000_0000_0000 * 16 + digit_of (get_or s (from + k) 0)

-- 0 to 9 or a to f, in ASCII
abbrev pub is_digit : ℕ → Bool
is_digit b = (leb 48 b && leb b 57) || (leb 97 b && leb b 102)

-- so many bytes from a place on are digits
unfoldable pub are_digits : List ℕ → ℕ → ℕ → Bool
are_digits s from zero = true
are_digits s from (suc k) = are_digits s from k && is_digit (get_or s (from + k) 0)

-- a blank or a line's end
abbrev pub is_behind : ℕ → Bool
is_behind b = eqb b 32 || eqb b 10

-- eight digits, and what stands behind a field
abbrev pub is_field : List ℕ → ℕ → Bool
is_field s from = are_digits s from 8 && is_behind (get_or s (from + 8) 0)

-- the number that bytes spell, and of more than eight digits that of the last eight; there is none where a byte is no
-- digit
abbrev pub number_of : List ℕ → Option ℕ
number_of s = pick (are_digits s 0 (length s)) (Some (spelled s 0 (length s))) None

abbrev pub word_of : List ℕ → Option ℕ
word_of s = option_map (λ n. n % 0x1_0000_0000) (number_of s)

-- the word of nine bytes that are a field
abbrev pub field_in : List ℕ → Option ℕ
field_in s = pick (eqb (length s) 9 && is_field s 0) (Some (spelled s 0 8 % 0x1_0000_0000)) None

-- a field that a text begins with, and what is behind it
pub record NextField (text : List ℕ) (word : ℕ) (behind : List ℕ) : Type 0 where
  pub field : field_in (take 9 text) ≡ Some word
  pub rest : behind ≡ drop 9 text
  pub counted : length behind + 9 ≡ length text
