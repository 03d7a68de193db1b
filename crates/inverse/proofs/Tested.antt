-- Lists whose entries all pass a test, and lists with one that does not. Assumes nothing.
use mathlib.Core.Path.{◌≡◌, refl, sym, ◌∙◌}
use mathlib.Core.Bool.{Bool, true, false, ◌&&◌}
use mathlib.Core.List.{List, [], ◌∷◌}
use Prim.Native.Nat.{ℕ, zero, suc, ◌<◌}
use native.Mathlib.Omega.{arith}
use lib.ListN.{length, get_or}
use Rattle.std.specs.Bool.{MatchBool}
use Rattle.std.specs.List.{AllWithin, HoldsAt}
use Rattle.model.specs.Lists.{every}

module _ {A : Type 0} (p : A → Bool) where
  all-pass : (l : List A) → ((k : ℕ) (d : A) → k < length l → p (get_or l k d) ≡ true) → true ≡ every p l
  unfolding every
  all-pass [] h = refl
  all-pass (x ∷ xs) h = λ j. sym (h 0 x (omega arith)) j && all-pass xs (λ k d b. h (suc k) d (omega arith)) j

  one-fails : (l : List A) (k : ℕ) → k < length l → ((d : A) → p (get_or l k d) ≡ false) → false ≡ every p l
  unfolding every
  one-fails [] k b h = absurd (omega arith)
  one-fails (x ∷ xs) zero b h = λ j. sym (h x) j && every p xs
  one-fails (x ∷ xs) (suc k) b h = sym (none (p x)) ∙ (λ j. p x && one-fails xs k (omega arith) h j)
    where
      none : (b : Bool) → (b && false) ≡ false
      none true = refl
      none false = refl

  pub decided : (r : Bool) (l : List A) → MatchBool r (AllWithin (λ x. p x ≡ true) l 0 (length l)) ((k : ℕ) × (k < length l) × HoldsAt (λ x. p x ≡ false) l k) → r ≡ every p l
  decided true l m = all-pass l (λ k d b. m k d (omega arith) b)
  decided false l m = one-fails l m.0 m.1 m.2
