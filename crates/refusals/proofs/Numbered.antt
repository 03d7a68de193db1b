-- The number that a call draws, where the caller has a type of its own for refusals, by the numbers of these. Assumes nothing.
use Rattle.std.proofs.Common.{◌≡◌, ℕ, Result, Ok, Err, refl}
use Rattle.refusals.specs.declared.Refusal.{Refusal}
use Rattle.refusals.specs.Drawn.{number_of, number_drawn}

abbrev pub number_by : {E A : Type 0} → (E → ℕ) → Result A E → ℕ
number_by number (Ok _) = 0
number_by number (Err e) = number e

pub by-table : {A : Type 0} (r : Result A Refusal) → number_by number_of r ≡ number_drawn r
by-table (Ok _) = refl
by-table (Err _) = refl
