-- A result that is copied into an output: scope, "Numbers when a piece is turned down". Definitions only.
use Rattle.std.specs.Prelude.{◌≡◌, List, ◌++◌, ℕ, zero, suc, ◌≤◌, ◌<◌, eqb, ltb, length, drop, Float, ⊤}
use Rattle.std.specs.Prelude.{Result, Ok, Err, IsOk, IsErrAnd}
use Rattle.borrowed.specs.Slices.{Floats}
use Rattle.model.specs.Lists.{pick}
use Rattle.model.specs.Refusals.{number, short_output}
use Rattle.refusals.specs.declared.Refusal.{Refusal}
use Rattle.refusals.specs.declared.Refusal.TheVariants.{ShortOutput}

-- the number of the call for a result of n entries; where that is 0, short output if there is room for fewer
abbrev pub output_number : ℕ → ℕ → ℕ → ℕ
output_number zero n room = pick (ltb room n) (number short_output) 0
output_number (suc g) n room = suc g

-- the number, and the entries copied or 0; the result stands at the start of the output, or nothing is changed
pub record CopiedOut {A : Type 0} (drawn : ℕ) (result lent left : List A) (told count : ℕ) : Type 0 where
  pub number : told ≡ output_number drawn (length result) (length lent)
  pub entries : count ≡ pick (eqb told 0) (length result) 0
  pub slice : left ≡ pick (eqb told 0) (result ++ drop (length result) lent) lent

-- the same with refusals of any type, of which `gives` says what is made of one of the table: what was drawn is
-- answered as it came, a short output by what is made of it, and otherwise the length of the result
pub record CopiedBy {E : Type 0} (gives : Refusal → E → Type 0) (drawn : Result ⊤ E) (result lent left : List Float)
    (told : Result ℕ E) : Type 0 where
  pub refused : (e : E) → drawn ≡ Err e → (told ≡ Err e) × (left ≡ lent)
  pub short : IsOk drawn → length lent < length result → IsErrAnd told (gives ShortOutput) × (left ≡ lent)
  pub copied : IsOk drawn → length result ≤ length lent
      → (told ≡ Ok (length result)) × (left ≡ result ++ drop (length result) lent)

-- in a slice that is borrowed
abbrev pub CopiesBy : {E : Type 0} → (Refusal → E → Type 0) → Result ⊤ E → List Float → Floats → Result ℕ E → Type 0
CopiesBy gives drawn result out told = CopiedBy gives drawn result out.entry.now out.exit.now told
