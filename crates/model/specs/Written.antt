-- What a call that writes results into lent room leaves there. Definitions only.
use Rattle.std.specs.Prelude.{◌≡◌, List, ◌++◌, ℕ, min, length, take, drop}
use Rattle.std.proofs.Math.Option.{Option, none, some}
use Rattle.model.specs.Lists.{or_else}

-- as many results as there is room for, which the answer counts; past these the slice is as lent
pub record Wrote {A : Type 0} (results lent left : List A) (count : ℕ) : Type 0 where
  pub counted : count ≡ min (length results) (length lent)
  pub slice : left ≡ take count results ++ drop count lent

-- 0 for none, 1 for some
abbrev pub case_of : {A : Type 0} → Option A → ℕ
case_of none = 0
case_of (some a) = 1

-- the result, if there is one, which the answer tells; without one the array is as lent
pub record Answered {A : Type 0} (result : Option (List A)) (lent left : List A) (told : ℕ) : Type 0 where
  pub case : told ≡ case_of result
  pub array : left ≡ or_else result lent
