-- A test of every entry of a list, the first to the last. Assumes nothing.
use mathlib.Core.Path.{◌≡◌, sym, ap, ◌∙◌}
use mathlib.Core.Bool.{Bool, true, false, ◌&&◌}
use mathlib.Core.List.{List}
use Prim.Native.Nat.{ℕ, suc, ◌+◌, ◌≤◌, ◌<◌}
use native.Mathlib.Numerals.{add-one}
use lib.ListN.{length, get_or, drop, drop_of_length-le}
use lib.Seq.{drop-cons}
use Rattle.model.specs.Lists.{every}

module _ (p : ℕ → Bool) (l : List ℕ) (i : ℕ) where
  one_more : i < length l → every p (drop i l) ≡ (p (get_or l i 0) && every p (drop (suc i) l))
  unfolding every
  one_more h = ap (every p) (drop-cons l i 0 h)

  pub one-fails : i < length l → every p l ≡ every p (drop i l) → p (get_or l i 0) ≡ false → false ≡ every p l
  one-fails h e f = sym (e ∙ one_more h ∙ ap (λ (b : Bool). b && every p (drop (suc i) l)) f)

  pub one_passes : i < length l → every p l ≡ every p (drop i l) → p (get_or l i 0) ≡ true → every p l ≡ every p (drop (i + 1) l)
  one_passes h e f =
      e ∙ one_more h ∙ ap (λ (b : Bool). b && every p (drop (suc i) l)) f ∙ ap (λ (k : ℕ). every p (drop k l)) (sym (add-one i))

  pub all_pass : length l ≤ i → every p l ≡ every p (drop i l) → true ≡ every p l
  unfolding every
  all_pass h e = sym (e ∙ ap (every p) (drop_of_length-le l h))
