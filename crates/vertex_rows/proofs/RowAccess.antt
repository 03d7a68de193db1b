-- Three or four floats of a slice, written. Assumes nothing.
use mathlib.Core.Path.{◌≡◌, sym, ◌∙◌}
use mathlib.Core.List.{List, [], ◌∷◌}
use Prim.Native.Nat.{ℕ, suc, ◌+◌, ◌≤◌}
use native.Mathlib.Omega.{arith}
use lib.Ieee.{Float}
use lib.ListN.{length, set}
use lib.Seq.{paste, sets-eq}

module _ (l : List Float) (i : ℕ) where
  one : suc i ≡ i + 1
  one = omega arith

  two : suc (suc i) ≡ i + 2
  two = omega arith

  three : suc (suc (suc i)) ≡ i + 3
  three = omega arith

  pub written3 : (x y z : Float) → i + 3 ≤ length l → set (set (set l i x) (i + 1) y) (i + 2) z ≡ paste l i (x ∷ y ∷ z ∷ []) 3
  written3 x y z h = sym (λ j. set (set (set l i x) (one j) y) (two j) z) ∙ sets-eq (x ∷ y ∷ z ∷ []) l i h

  pub written4 : (x y z w : Float) → i + 4 ≤ length l → set (set (set (set l i x) (i + 1) y) (i + 2) z) (i + 3) w ≡ paste l i (x ∷ y ∷ z ∷ w ∷ []) 4
  written4 x y z w h = sym (λ j. set (set (set (set l i x) (one j) y) (two j) z) (three j) w) ∙ sets-eq (x ∷ y ∷ z ∷ w ∷ []) l i h
