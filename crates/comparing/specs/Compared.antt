-- What was found beside what is right, one by one and in lists. Definitions only.
use Rattle.std.specs.Prelude.{Bool, List, [], ◌∷◌, ℕ, ◌+◌, ◌%◌, eqb, Float, length}
use Rattle.std.specs.Cmp.Lexicographic.{pointwise}
use Rattle.float.specs.F32.{f32}
use Rattle.model.specs.Lists.{pick}
use Rattle.comparing.specs.Near.{same_bits, near_by}
use Rattle.comparing.specs.declared.Agreement.{Agreement}

-- one more; a count starts anew at 2^31
abbrev pub one_more : ℕ → ℕ
one_more n = n % 0x8000_0000 + 1

abbrev pub one_equal : Agreement → Agreement
one_equal a = record { equal = one_more a.equal; near = a.near; differ = a.differ }

abbrev pub one_near : Agreement → Agreement
one_near a = record { equal = a.equal; near = one_more a.near; differ = a.differ }

abbrev pub one_differs : Agreement → Agreement
one_differs a = record { equal = a.equal; near = a.near; differ = one_more a.differ }

-- one float more, which has equal bits, lies near or differs
abbrev pub agreeing : Agreement → Float → Float → Float → Agreement
agreeing a x y most = pick (same_bits x y) (one_equal a) (pick (near_by x y most) (one_near a) (one_differs a))

-- the floats of a list beside the bits in another, as far as both go
unfoldable pub agreeing_all : Agreement → List Float → List ℕ → Float → Agreement
agreeing_all a [] ws most = a
agreeing_all a (x ∷ xs) [] most = a
agreeing_all a (x ∷ xs) (w ∷ ws) most = agreeing_all (agreeing a x (f32 w) most) xs ws most

-- two lengths; another one differs once
abbrev pub of_lengths : Agreement → ℕ → ℕ → Agreement
of_lengths a m n = pick (eqb m n) a (one_differs a)

-- the lengths of both, and their floats
abbrev pub compared : Agreement → List Float → List ℕ → Float → Agreement
compared a xs ws most = agreeing_all (of_lengths a (length xs) (length ws)) xs ws most

-- two lists of one length that agree entry by entry: words, and floats beside the bits of floats
abbrev pub same_words : List ℕ → List ℕ → Bool
same_words = pointwise eqb

abbrev pub same_floats : List Float → List ℕ → Bool
same_floats = pointwise (λ x w. same_bits x (f32 w))
