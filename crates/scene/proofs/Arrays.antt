-- An array that is filled entry by entry with the entries of a list. Assumes nothing.
use mathlib.Core.Path.{◌≡◌, sym, ap, ◌∙◌}
use mathlib.Core.List.{List, [], ◌∷◌, ◌++◌}
use Prim.Native.Nat.{ℕ, ◌+◌, ◌≤◌, ◌<◌}
use native.Mathlib.Numerals.{add-one}
use lib.ListN.{length, get_or, set, take}
use lib.Seq.{take-suc, take-suc-set, take_all}

module _ {A : Type 0} (results out : List A) (k : ℕ) where
  -- the store of the next result
  pub next : (x d : A) → k < length out → k < length results → take k out ≡ take k results → x ≡ get_or results k d → take (k + 1) (set out k x) ≡ take (k + 1) results
  next x d h g e v =
      ap (λ (n : ℕ). take n (set out k x)) (add-one k)
      ∙ take-suc-set out k x h
      ∙ (λ j. e j ++ (v j ∷ []))
      ∙ sym (take-suc results k d g)
      ∙ ap (λ (n : ℕ). take n results) (sym (add-one k))

  pub full : length out ≤ k → length results ≤ k → take k out ≡ take k results → out ≡ results
  full h g e = sym (take_all k out h) ∙ e ∙ take_all k results g
