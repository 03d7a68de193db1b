-- The first word that draws a number, list after list. Assumes nothing.
use mathlib.Core.Path.{◌≡◌, refl, sym, ap, ◌∙◌}
use mathlib.Core.Bool.{Bool}
use mathlib.Core.List.{List, [], ◌∷◌, ◌++◌}
use Prim.Native.Nat.{ℕ}
use borrow.Author.Tests.{eq-eqb, ne_eqb}
use lib.Dec.{eqb}
use Rattle.model.specs.Lists.{pick}
use Rattle.word_checks.specs.Words.{Asked, leaves, over, asks, first_asked}

pub first-append : (n : ℕ) (xs ys : List Asked) (d : Asked)
    → first_asked n (xs ++ ys) d ≡ first_asked n xs (first_asked n ys d)
unfolding first_asked
first-append n [] ys d = refl
first-append n (x ∷ xs) ys d = ap (pick (eqb x.number n) x) (first-append n xs ys d)

-- one word, which draws n or does not
module _ (w n : ℕ) (rest : Asked) where
  pub met : (drawn : ℕ) → drawn ≡ n → asks w n ≡ first_asked n (asks w drawn ∷ []) rest
  unfolding first_asked
  met drawn e = λ j. pick (sym (eq-eqb drawn n e) j) (asks w (sym e j)) rest

  pub not_met : (drawn : ℕ) → (drawn ≡ n → ⊥) → rest ≡ first_asked n (asks w drawn ∷ []) rest
  unfolding first_asked
  not_met drawn h = ap (λ (b : Bool). pick b (asks w drawn) rest) (sym (ne_eqb drawn n h))

module _ (n : ℕ) (ys : List Asked) (d r rest : Asked) (later : rest ≡ first_asked n ys d) where
  pub before-all : (xs : List Asked) → r ≡ first_asked n xs rest → r ≡ first_asked n (xs ++ ys) d
  before-all xs e = e ∙ ap (first_asked n xs) later ∙ sym (first-append n xs ys d)

  pub before-leaves : (w : ℕ) (told fits : Bool) → told ≡ fits → r ≡ first_asked n (asks w (leaves told) ∷ []) rest
      → r ≡ first_asked n (asks w (leaves fits) ∷ ys) d
  unfolding first_asked
  before-leaves w told fits t e = e ∙ (λ j. first_asked n (asks w (leaves (t j)) ∷ []) (later j))

  pub before-over : (w : ℕ) (told within : Bool) → told ≡ within → r ≡ first_asked n (asks w (over told) ∷ []) rest
      → r ≡ first_asked n (asks w (over within) ∷ ys) d
  unfolding first_asked
  before-over w told within t e = e ∙ (λ j. first_asked n (asks w (over (t j)) ∷ []) (later j))

pub none_left : (n : ℕ) (d : Asked) → d ≡ first_asked n [] d
unfolding first_asked
none_left n d = refl
