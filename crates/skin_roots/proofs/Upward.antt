-- A line of nodes, taken from its codes node by node. Assumes nothing.
use mathlib.Core.Path.{◌≡◌, refl, sym, ap, ◌∙◌}
use mathlib.Core.Bool.{Bool, true, false}
use mathlib.Core.List.{List, [], ◌∷◌}
use mathlib.Core.Option.{none, some}
use Prim.Native.Nat.{ℕ, zero, suc, ◌+◌, ◌-◌, ◌≤◌, ◌<◌}
use native.Mathlib.Numerals.{add-one}
use native.Mathlib.Omega.{arith}
use borrow.Author.Tests.{lt-ltb, le-ltb, ne_eqb}
use lib.ListN.{length, get_or}
use Rattle.model.specs.Lists.{pick, foldl, first_that}
use Rattle.model.specs.Skin.{ancestors}
use Rattle.skin_roots.specs.Lines.{id_in, up_in, code_above, line_in}

module _ (codes : List ℕ) where
  -- what is left of a line: so many nodes at most, from a code on
  abbrev pub rest_of : ℕ → ℕ → List ℕ
  rest_of left code = ancestors left (up_in codes) (id_in code)

  pub line-start : (j : ℕ) → line_in codes j ≡ rest_of (length codes + 1) (j + 3)
  unfolding line_in
  line-start j =
      let e : j + 3 - 3 ≡ j = omega arith in
      sym ((λ i. ancestors (add-one (length codes) i) (up_in codes) (pick (le-ltb (j + 3) 3 (omega arith) i) none (some (e i)))))

  going : (a k : ℕ) → ancestors k (up_in codes) (up_in codes a) ≡ rest_of k (code_above codes a k)
  unfolding ancestors
  going a zero = refl
  going a (suc k) = ap (λ (b : Bool). ancestors (suc k) (up_in codes) (id_in (pick b 0 (get_or codes a 0)))) (sym (ne_eqb (suc k) 0 (λ e. omega (arith, e))))

  pub line_step : (left code a next : ℕ) → 0 < left → 2 < code → a ≡ code - 3 → next ≡ code_above codes a (left - 1) → rest_of left code ≡ a ∷ rest_of (left - 1) next
  unfolding ancestors
  line_step zero code a next l h e f = absurd (omega arith)
  line_step (suc k) code a next l h e f =
      let o : suc k - 1 ≡ k = omega arith in
      (λ i. ancestors (suc k) (up_in codes) (pick (le-ltb code 3 (omega arith) i) none (some (sym e i))))
      ∙ ap (λ (r : List ℕ). a ∷ r) (going a k ∙ (λ i. rest_of (sym o i) (code_above codes a (sym o i))) ∙ ap (rest_of (suc k - 1)) (sym f))

  nothing : (k : ℕ) → ancestors k (up_in codes) none ≡ []
  unfolding ancestors
  nothing zero = refl
  nothing (suc k) = refl

  pub line-end : (left code : ℕ) → code ≤ 2 → rest_of left code ≡ []
  line-end left code h = ap (λ (b : Bool). ancestors left (up_in codes) (pick b none (some (code - 3)))) (lt-ltb code 3 (omega arith)) ∙ nothing left

  -- a line that goes on has nodes left to take
  pub goes_on : (a left next : ℕ) → next ≡ code_above codes a left → 2 < next → 0 < left
  goes_on a zero next e h = absurd (omega (arith, e, h))
  goes_on a (suc k) next e h = omega arith

  -- ---- a fold over a line, and a search in it
  module _ (f : List ℕ → ℕ → List ℕ) where
    pub fold_step : (left code a next : ℕ) (z w : List ℕ) → 0 < left → 2 < code → a ≡ code - 3 → next ≡ code_above codes a (left - 1) → w ≡ f z a
        → foldl f z (rest_of left code) ≡ foldl f w (rest_of (left - 1) next)
    unfolding foldl
    fold_step left code a next z w l h e g q = ap (foldl f z) (line_step left code a next l h e g) ∙ ap (λ (x : List ℕ). foldl f x (rest_of (left - 1) next)) (sym q)

    pub fold_end : (left code : ℕ) (z : List ℕ) → code ≤ 2 → foldl f z (rest_of left code) ≡ z
    unfolding foldl
    fold_end left code z h = ap (foldl f z) (line-end left code h)

  module _ (p : ℕ → Bool) where
    pub first_found : (left code a : ℕ) → 0 < left → 2 < code → a ≡ code - 3 → p a ≡ true → first_that p (rest_of left code) ≡ some a
    unfolding first_that
    first_found left code a l h e t =
        ap (first_that p) (line_step left code a _ l h e refl) ∙ ap (λ (b : Bool). pick b (some a) (first_that p (rest_of (left - 1) (code_above codes a (left - 1))))) t

    pub first-passed : (left code a next : ℕ) → 0 < left → 2 < code → a ≡ code - 3 → next ≡ code_above codes a (left - 1) → p a ≡ false
        → first_that p (rest_of left code) ≡ first_that p (rest_of (left - 1) next)
    unfolding first_that
    first-passed left code a next l h e g t =
        ap (first_that p) (line_step left code a next l h e g) ∙ ap (λ (b : Bool). pick b (some a) (first_that p (rest_of (left - 1) next))) t

    pub first-none : (left code : ℕ) → code ≤ 2 → first_that p (rest_of left code) ≡ none
    unfolding first_that
    first-none left code h = ap (first_that p) (line-end left code h)
