-- What a call answers that is told what a room draws, as a refusal of the caller's own type. Definitions only.
use Rattle.std.specs.Prelude.{◌≡◌, ℕ, ⊤, Result, Err, IsOk, IsErrAnd}
use Rattle.refusals.specs.declared.Refusal.{Refusal}
use Rattle.refusals.specs.Drawn.{number_of}

-- what is made of the refusal with the number n
pub record MadeOf {E : Type 0} (gives : Refusal → E → Type 0) (n : ℕ) (e : E) : Type 0 where
  pub refusal : Refusal
  pub number : number_of refusal ≡ n
  pub made : gives refusal e

-- a refusal with the number n; where that is 0, what was drawn; where that is none, a refusal with the number m; where
-- that is 0, none
pub record Judged {E : Type 0} (gives : Refusal → E → Type 0) (n : ℕ) (drawn : Result ⊤ E) (m : ℕ) (told : Result ⊤ E)
    : Type 0 where
  pub before : (n ≡ 0 → ⊥) → IsErrAnd told (MadeOf gives n)
  pub passed : n ≡ 0 → (e : E) → drawn ≡ Err e → told ≡ Err e
  pub after : n ≡ 0 → IsOk drawn → (m ≡ 0 → ⊥) → IsErrAnd told (MadeOf gives m)
  pub none : n ≡ 0 → IsOk drawn → m ≡ 0 → IsOk told
