-- What a call writes into a slice that it borrows. Definitions only.
use Rattle.std.specs.Prelude.{List, ℕ}
use Rattle.std.proofs.Math.Option.{Option}
use Rattle.std.specs.Borrow.{MutBor}
use denote.Triple.Both.{Both}
use Rattle.model.specs.Written.{Wrote, Answered}

-- as many results as there is room for, which the answer counts
abbrev pub Writes : {A : Type 0} → List A → Both (MutBor (List A)) (MutBor (List A)) → ℕ → Type 0
Writes results out count = Wrote results out.entry.now out.exit.now count

-- the result, if there is one, which the answer tells
abbrev pub Answers : {A : Type 0} → Option (List A) → Both (MutBor (List A)) (MutBor (List A)) → ℕ → Type 0
Answers result out told = Answered result out.entry.now out.exit.now told
