-- Words and floats in lists of bytes: four bytes each, little-endian. Definitions only.
use Rattle.std.specs.Prelude.{◌≡◌, List, [], ◌∷◌, ◌++◌, ℕ, ◌+◌, ◌*◌, ◌/◌, ◌%◌, min, Float, length, get_or, take, drop}
use Rattle.std.specs.Float.{binary32}
use Rattle.std.specs.Float.Ieee.{of_bits, to_bits}
use Rattle.model.specs.Lists.{tabulate}

-- the word whose first byte is byte i
abbrev pub word_at : List ℕ → ℕ → ℕ
word_at s i = get_or s i 0 + get_or s (i + 1) 0 * 256 + get_or s (i + 2) 0 * 65536 + get_or s (i + 3) 0 * 16777216

-- what each four bytes stand for; bytes past the last whole word are not counted
unfoldable pub read_as : {A : Type 0} → (ℕ → A) → List ℕ → List A
read_as f s = tabulate (length s / 4) (λ i. f (word_at s (i * 4)))

abbrev pub words_in : List ℕ → List ℕ
words_in s = read_as (λ w. w) s

-- every NaN pattern is the one nan
abbrev pub floats_in : List ℕ → List Float
floats_in s = read_as (of_bits binary32) s

abbrev pub word_bytes : ℕ → List ℕ
word_bytes w = w % 256 ∷ w / 256 % 256 ∷ w / 65536 % 256 ∷ w / 16777216 % 256 ∷ []

-- the bytes of entries that are written as words
unfoldable pub written_as : {A : Type 0} → (A → ℕ) → List A → List ℕ
written_as g [] = []
written_as g (x ∷ xs) = word_bytes (g x) ++ written_as g xs

abbrev pub bytes_of_words : List ℕ → List ℕ
bytes_of_words words = written_as (λ w. w) words

-- nan as 7fc00000
abbrev pub bytes_of : List Float → List ℕ
bytes_of floats = written_as (to_bits binary32) floats

-- as many entries as there is room for, which the answer counts; past these the bytes are as lent
pub record WroteAs {A : Type 0} (g : A → ℕ) (entries : List A) (lent left : List ℕ) (count : ℕ) : Type 0 where
  pub counted : count ≡ min (length entries) (length lent / 4)
  pub bytes : left ≡ written_as g (take count entries) ++ drop (4 * count) lent

abbrev pub WroteBytes : List Float → List ℕ → List ℕ → ℕ → Type 0
WroteBytes floats lent left count = WroteAs (to_bits binary32) floats lent left count
