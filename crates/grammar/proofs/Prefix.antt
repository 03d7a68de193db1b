-- Two texts have in common what stands before their first difference, or before an end. Assumes nothing.
use mathlib.Core.Path.{◌≡◌, refl, sym, ap, ◌∙◌}
use mathlib.Core.Bool.{Bool, true, false, ◌&&◌}
use mathlib.Core.List.{List, [], ◌∷◌, ◌++◌}
use Prim.Native.Nat.{ℕ, suc, ◌+◌, ◌≤◌, ◌<◌}
use native.Mathlib.Omega.{arith}
use borrow.Author.Tests.{eqb-true, eqb-false}
use lib.Dec.{eqb, eqb-zero-suc, eqb-suc-suc}
use lib.ListN.{length, get_or, take, drop}
use Rattle.model.specs.Lists.{pick}
use Rattle.grammar.specs.Parsed.{same}
use Rattle.grammar.specs.Common.{common}

pub common-upto : (s t : List ℕ) → (common s t ≤ length s) × (common s t ≤ length t)
unfolding common
common-upto [] t = (omega arith, omega arith)
common-upto (x ∷ s) [] = (omega arith, omega arith)
common-upto (x ∷ s) (y ∷ t) = go (eqb x y) (common s t) (common-upto s t)
  where
    go : (b : Bool) (n : ℕ) → (n ≤ length s) × (n ≤ length t)
        → (pick b (suc n) 0 ≤ suc (length s)) × (pick b (suc n) 0 ≤ suc (length t))
    go true n h = (omega arith, omega arith)
    go false n h = (omega arith, omega arith)

pub common-same : (s t : List ℕ) → take (common s t) s ≡ take (common s t) t
unfolding common
common-same [] t = refl
common-same (x ∷ s) [] = refl
common-same (x ∷ s) (y ∷ t) = go (eqb x y) refl (common s t) (common-same s t)
  where
    go : (b : Bool) → eqb x y ≡ b → (n : ℕ) → take n s ≡ take n t
        → take (pick b (suc n) 0) (x ∷ s) ≡ take (pick b (suc n) 0) (y ∷ t)
    go true e n h = λ j. eqb-true x y e j ∷ h j
    go false e n h = refl

-- the bytes behind them, where both texts have one, differ
pub common-departs : (s t : List ℕ) → common s t < length s → common s t < length t
    → get_or s (common s t) 0 ≡ get_or t (common s t) 0 → ⊥
unfolding common
common-departs [] t = λ p q. absurd (omega arith)
common-departs (x ∷ s) [] = λ p q. absurd (omega arith)
common-departs (x ∷ s) (y ∷ t) = go (eqb x y) refl (common s t) (common-departs s t)
  where
    go : (b : Bool) → eqb x y ≡ b → (n : ℕ) → (n < length s → n < length t → get_or s n 0 ≡ get_or t n 0 → ⊥)
        → pick b (suc n) 0 < suc (length s) → pick b (suc n) 0 < suc (length t)
        → get_or (x ∷ s) (pick b (suc n) 0) 0 ≡ get_or (y ∷ t) (pick b (suc n) 0) 0 → ⊥
    go true e n h p q = h (omega arith) (omega arith)
    go false e n h p q = eqb-false x y e

-- texts are the same just where they have all in common
pub same-common : (s t : List ℕ) → same s t ≡ (eqb (common s t) (length s) && eqb (length s) (length t))
unfolding same common
same-common [] [] = refl
same-common [] (y ∷ t) = sym (eqb-zero-suc (length t))
same-common (x ∷ s) [] = simp eqb-zero-suc
same-common (x ∷ s) (y ∷ t) = go (eqb x y) (same s t) (common s t) (same-common s t)
  where
    go : (b alike : Bool) (n : ℕ) → alike ≡ (eqb n (length s) && eqb (length s) (length t))
        → (b && alike) ≡ (eqb (pick b (suc n) 0) (suc (length s)) && eqb (suc (length s)) (suc (length t)))
    go true alike n h = simp eqb-suc-suc h
    go false alike n h = simp eqb-zero-suc

-- of two texts one after the other: where all of the first is in common, the second goes on with the rest
pub common-append : (xs ys t : List ℕ)
    → common (xs ++ ys) t
    ≡ pick (eqb (common xs t) (length xs)) (length xs + common ys (drop (length xs) t)) (common xs t)
unfolding common
common-append [] ys t = omega arith
common-append (x ∷ xs) ys [] = simp eqb-zero-suc
common-append (x ∷ xs) ys (y ∷ t) =
    go (eqb x y) (common xs t) (length xs) (common ys (drop (length xs) t)) (common-append xs ys t)
  where
    up : (b : Bool) (n l m : ℕ) → suc (pick b (l + m) n) ≡ pick b (suc l + m) (suc n)
    up true n l m = omega arith
    up false n l m = refl

    go : (b : Bool) (n l m : ℕ) → common (xs ++ ys) t ≡ pick (eqb n l) (l + m) n
        → pick b (suc (common (xs ++ ys) t)) 0
        ≡ pick (eqb (pick b (suc n) 0) (suc l)) (suc l + m) (pick b (suc n) 0)
    go true n l m h = simp eqb-suc-suc (ap suc h ∙ up (eqb n l) n l m)
    go false n l m h = simp eqb-zero-suc
