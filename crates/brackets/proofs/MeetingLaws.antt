-- A text compared with the bytes that are expected of it, one after the other. Assumes nothing.
use mathlib.Core.Path.{◌≡◌, refl, sym, ap, ◌∙◌}
use mathlib.Core.Bool.{true, false}
use mathlib.Core.List.{List, [], ◌∷◌, ◌++◌}
use Prim.Native.Nat.{ℕ, ◌+◌, ◌≤◌, ◌<◌}
use native.Mathlib.Numerals.{add-one}
use native.Mathlib.Omega.{arith}
use borrow.Author.Tests.{lt-ltb, eq-eqb}
use lib.ListN.{length, get_or, drop, length-drop, drop_of_length-le}
use lib.Seq.{drop-cons}
use Rattle.digits.specs.Standing.{Stands}
use Rattle.brackets.specs.declared.Met.{Met}
use Rattle.brackets.specs.Met.{met_at, meet, meets}

pub meets-append : (text xs ys : List ℕ) (m : Met) → meets text (xs ++ ys) m ≡ meets text ys (meets text xs m)
unfolding meets
meets-append text [] ys m = refl
meets-append text (x ∷ xs) ys m = meets-append text xs ys (meet text x m)

-- a text that has departed
pub departed : (text bs : List ℕ) (at : ℕ) → meets text bs (met_at at false) ≡ met_at at false
unfolding meets
departed text [] at = refl
departed text (b ∷ bs) at = departed text bs at

-- what stands there is met
pub stands-met : (text bs : List ℕ) (at next : ℕ) → Stands text at next bs
    → meets text bs (met_at at true) ≡ met_at next true
unfolding meets
stands-met text [] at next s = let e : at ≡ next = omega (arith, s.far) in ap (λ (k : ℕ). met_at k true) e
stands-met text (b ∷ bs) at next s =
    let inside : at < length text = omega (arith, ap length s.here, length-drop at text) in
    let cons = sym (drop-cons text at 0 inside) ∙ s.here in
    let first : get_or text at 0 ≡ b = ap (λ (l : List ℕ). get_or l 0 0) cons in
    let then : Stands text (at + 1) next bs =
    record { here = ap (λ (k : ℕ). drop k text) (add-one at) ∙ ap (drop 1) cons; far = omega (arith, s.far) } in
    ap (meets text bs) (simp (lt-ltb at (length text) inside, eq-eqb (get_or text at 0) b first))
    ∙ stands-met text bs (at + 1) next then

-- what is still expected makes up what was expected
pub record Expecting (text bytes : List ℕ) (m n : Met) (i : ℕ) : Type 0 where
  pub still : meets text (drop i bytes) n ≡ meets text bytes m

module _ {text bytes : List ℕ} {m n : Met} {i : ℕ} (e : Expecting text bytes m n i) where
  pub meets-more : (next : Met) → i < length bytes → next ≡ meet text (get_or bytes i 0) n
      → Expecting text bytes m next (i + 1)
  unfolding meets
  meets-more next h p = record {
    still =
        (λ j. meets text (drop (add-one i j) bytes) (p j))
        ∙ ap (λ (l : List ℕ). meets text l n) (sym (drop-cons bytes i 0 h)) ∙ e.still;
  }

  pub meets-done : length bytes ≤ i → n ≡ meets text bytes m
  unfolding meets
  meets-done h = rw (drop_of_length-le bytes h) at e.still
