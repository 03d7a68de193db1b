-- Slices filled with the results of one function at each entry. Assumes nothing.
use mathlib.Core.Path.{◌≡◌, sym, ap, ◌∙◌, subst}
use mathlib.Core.List.{List, map, zip_with}
use Prim.Native.Nat.{ℕ, ◌+◌, ◌<◌, min}
use native.Mathlib.Omega.{arith}
use lib.ListN.{length, get_or, set, length-map, get_or-map}
use Rattle.model.proofs.ListLaws.{length-zip, get_d_zip}
use Rattle.model.proofs.Filling.{Filled, start, step, inside}

-- ---- where the results are those of one function at each x
module _ {A B : Type 0} (g : A → B) (xs : List A) (lent : List B) (n : ℕ) where
  pub start-map : n ≡ min (length xs) (length lent) → Filled (map g xs) lent n lent 0
  start-map e = start (map g xs) lent n (e ∙ ap (λ (k : ℕ). min k (length lent)) (sym (length-map xs g)))

  pub inside-map : (left : List B) (i : ℕ) → Filled (map g xs) lent n left i → i < n → i < length xs
  inside-map left i f h = subst (λ (k : ℕ). i < k) (length-map xs g) (inside (map g xs) lent n left i f h).0

  pub step_map : (left : List B) (i : ℕ) (y : B) (d : A) → Filled (map g xs) lent n left i → i < n → y ≡ g (get_or xs i d) → Filled (map g xs) lent n (set left i y) (i + 1)
  step_map left i y d f h e = step (map g xs) lent n left i y (g d) f h (e ∙ sym (get_or-map g xs i d))

-- ---- where they are those of one function at each x and y
module _ {A B C : Type 0} (g : A → B → C) (xs : List A) (ys : List B) (lent : List C) (n : ℕ) where
  pub start-zip : (m : ℕ) → m ≡ min (length xs) (length ys) → n ≡ min m (length lent) → Filled (zip_with g xs ys) lent n lent 0
  start-zip m e f = start (zip_with g xs ys) lent n (f ∙ ap (λ (k : ℕ). min k (length lent)) (e ∙ sym (length-zip g xs ys)))

  pub inside-zip : (left : List C) (i : ℕ) → Filled (zip_with g xs ys) lent n left i → i < n → (i < length xs) × (i < length ys)
  inside-zip left i f h = let b = (inside (zip_with g xs ys) lent n left i f h).0 in (omega (arith, b, length-zip g xs ys), omega (arith, b, length-zip g xs ys))

  pub step-zip : (left : List C) (i : ℕ) (z : C) (d : A) (e : B) → Filled (zip_with g xs ys) lent n left i → i < n → z ≡ g (get_or xs i d) (get_or ys i e) → Filled (zip_with g xs ys) lent n (set left i z) (i + 1)
  step-zip left i z d e f h p = let b = inside-zip left i f h in step (zip_with g xs ys) lent n left i z (g d e) f h (p ∙ sym (get_d_zip g xs ys i d e (g d e) b.0 b.1))
