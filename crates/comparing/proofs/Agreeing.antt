-- What was found beside what is right, entry by entry. Assumes nothing.
use Rattle.std.proofs.Common.{◌≡◌, refl, ap, Bool, true, ◌&&◌, List, [], ◌∷◌, ℕ, length, arith}
use Rattle.std.specs.Prelude.{Float, fold}
use Rattle.std.specs.List.{list_all, zip}
use Rattle.std.proofs.lemmas.Slice.Eq.{bytes_eq-Decides}
use Rattle.std.specs.Cmp.Lexicographic.{pointwise}
use Rattle.float.specs.F32.{f32}
use Rattle.comparing.specs.Compared.{agreeing, agreeing_all, same_words}
use Rattle.comparing.specs.declared.Agreement.{Agreement}

-- ---- lists that are alike, by their pairs
module _ {A B : Type 0} (same : A → B → Bool) where
  pub alike_by_pairs : (xs : List A) (ys : List B) → length xs ≡ length ys
      → list_all (λ (p : A × B). same p.0 p.1) (zip xs ys) ≡ pointwise same xs ys
  alike_by_pairs [] [] e = refl
  alike_by_pairs [] (y ∷ ys) e = absurd (omega arith)
  alike_by_pairs (x ∷ xs) [] e = absurd (omega arith)
  alike_by_pairs (x ∷ xs) (y ∷ ys) e =
      ap (λ (t : Bool). same x y && t) (alike_by_pairs xs ys (omega arith))

-- words are alike just where the lists are equal
pub words-equal : (xs ys : List ℕ) → same_words xs ys ≡ true → xs ≡ ys
words-equal xs ys = (bytes_eq-Decides xs ys).0

pub equal_words : (xs : List ℕ) → same_words xs xs ≡ true
equal_words xs = (bytes_eq-Decides xs xs).1 refl

-- ---- floats beside bits, by their pairs
pub agreeing_by_pairs : (a : Agreement) (xs : List Float) (ws : List ℕ) (most : Float)
    → fold (λ (b : Agreement) (p : Float × ℕ). agreeing b p.0 (f32 p.1) most) a (zip xs ws) ≡ agreeing_all a xs ws most
unfolding agreeing_all
agreeing_by_pairs a [] ws most = refl
agreeing_by_pairs a (x ∷ xs) [] most = refl
agreeing_by_pairs a (x ∷ xs) (w ∷ ws) most = agreeing_by_pairs (agreeing a x (f32 w) most) xs ws most
