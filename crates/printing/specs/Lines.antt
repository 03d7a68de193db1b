-- Baked positions in print, one vertex a line, and a refusal number on a line of its own (request 2026-01). Definitions
-- only.
use Rattle.std.specs.Prelude.{List, [], ◌∷◌, ◌++◌, ℕ, Float}
use Rattle.std.specs.Float.{binary32}
use Rattle.std.specs.Float.Ieee.{to_bits}
use Rattle.grammar.specs.Digits.{numbers, floats, digits_of}

-- the eight digits of a float's bits
abbrev pub bits_text : Float → List ℕ
bits_text x = digits_of floats (to_bits binary32 x)

-- three such groups with a space between
abbrev pub vertex_text : Float → Float → Float → List ℕ
vertex_text x y z = bits_text x ++ 32 ∷ bits_text y ++ 32 ∷ bits_text z ++ 10 ∷ []

-- floats past the last whole vertex are left out
unfoldable pub vertices_text : List Float → List ℕ
vertices_text (x ∷ y ∷ z ∷ ps) = vertex_text x y z ++ vertices_text ps
vertices_text (x ∷ y ∷ []) = []
vertices_text (x ∷ []) = []
vertices_text [] = []

abbrev pub number_text : ℕ → List ℕ
number_text n = digits_of numbers n ++ 10 ∷ []
