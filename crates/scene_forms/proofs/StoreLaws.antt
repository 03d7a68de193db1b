-- Runs of stores: one behind the other, two that lie apart, and one at the start. Assumes nothing.
use mathlib.Core.Path.{◌≡◌, refl, sym, ap, ◌∙◌}
use mathlib.Core.Logic.{◌≢◌}
use mathlib.Core.List.{List, [], ◌∷◌, ◌++◌}
use Prim.Native.Nat.{ℕ, suc, ◌+◌, ◌≤◌, ◌<◌}
use native.Mathlib.Omega.{arith}
use lib.ListN.{length, set, take, drop}
use lib.Seq.{sets, set_comm, sets-eq, take_at}

module _ {A : Type 0} where
  pub sets-append : (l : List A) (i : ℕ) (xs ys : List A) → sets l i (xs ++ ys) ≡ sets (sets l i xs) (i + length xs) ys
  sets-append l i [] ys = let e : i ≡ i + 0 = omega arith in ap (λ (k : ℕ). sets l k ys) e
  sets-append l i (x ∷ xs) ys =
      let e : suc i + length xs ≡ i + suc (length xs) = omega arith in
      sets-append (set l i x) (suc i) xs ys ∙ ap (λ (k : ℕ). sets (sets (set l i x) (suc i) xs) k ys) e

  -- a store before a run may come last
  set_apart : (l : List A) (i : ℕ) (x : A) (j : ℕ) (ys : List A) → i < j
      → set (sets l j ys) i x ≡ sets (set l i x) j ys
  set_apart l i x j [] h = refl
  set_apart l i x j (y ∷ ys) h =
      let d : j ≢ i = λ e. omega (arith, e) in
      set_apart (set l j y) i x (suc j) ys (omega arith)
      ∙ ap (λ (s : List A). sets s (suc j) ys) (set_comm l j i y x d)

  pub sets-apart : (l : List A) (i : ℕ) (xs : List A) (j : ℕ) (ys : List A) → i + length xs ≤ j
      → sets (sets l j ys) i xs ≡ sets (sets l i xs) j ys
  sets-apart l i [] j ys h = refl
  sets-apart l i (x ∷ xs) j ys h =
      ap (λ (s : List A). sets s (suc i) xs) (set_apart l i x j ys (omega arith))
      ∙ sets-apart (set l i x) (suc i) xs j ys (omega arith)

  -- a list stored at the start of another that has room for it
  pub stored : (l xs : List A) → length xs ≤ length l → sets l 0 xs ≡ xs ++ drop (length xs) l
  stored l xs h =
      let z : 0 + length xs ≡ length xs = omega arith in
      sets-eq xs l 0 (omega arith) ∙ ap (λ (k : ℕ). xs ++ drop k l) z

  pub front : (l xs : List A) (n : ℕ) → n ≡ length xs → length xs ≤ length l → take n (sets l 0 xs) ≡ xs
  front l xs n e h = ap (take n) (stored l xs h) ∙ take_at xs (drop (length xs) l) n (sym e)
