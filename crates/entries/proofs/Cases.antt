-- The cases that a number tells. Assumes nothing.
use mathlib.Core.Path.{◌≡◌, refl, sym, ap}
use mathlib.Core.List.{List}
use mathlib.Core.Option.{Option, none, some}
use Prim.Native.Nat.{ℕ, zero, suc}
use Rattle.model.specs.Lists.{or_else}
use Rattle.model.specs.Matrix.{Matrix}
use Rattle.model.specs.Transform.{Trs, parts, matrix}
use Rattle.entries.specs.Handed.{chosen}
use Rattle.model.specs.Written.{Answered, case_of}

module _ {A : Type 0} (result : Option (List A)) (lent : List A) where
  pub with-some : (xs : List A) → result ≡ some xs → Answered result lent xs 1
  with-some xs e = record { case = sym (ap case_of e); array = sym (ap (λ (r : Option (List A)). or_else r lent) e) }

  pub with_none : result ≡ none → Answered result lent lent 0
  with_none e = record { case = sym (ap case_of e); array = sym (ap (λ (r : Option (List A)). or_else r lent) e) }

module _ (p : Trs) (m : Matrix) where
  pub at_zero : (mark : ℕ) → mark ≡ 0 → chosen mark p m ≡ parts p
  at_zero mark e = ap (λ (k : ℕ). chosen k p m) e

  pub elsewhere : (mark : ℕ) → (mark ≡ 0 → ⊥) → chosen mark p m ≡ matrix m
  elsewhere zero h = absurd (h refl)
  elsewhere (suc k) h = refl
