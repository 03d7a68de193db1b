-- A slice that a call borrows, at entry and at exit together, so that a contract names it once: `now s.entry` is
-- what it holds when the call begins, `now s.exit` what it holds when the call ends. Definitions only.
use Rattle.std.specs.Prelude.{List, ℕ, Float}
use Rattle.std.specs.Borrow.{Bor, MutBor}
use denote.Triple.Both.{Both}

-- of words, or of bytes, that a call may change
abbrev pub Words : Type 0
Words = Both (MutBor (List ℕ)) (MutBor (List ℕ))

abbrev pub Floats : Type 0
Floats = Both (MutBor (List Float)) (MutBor (List Float))

-- of words, or of bytes, that a call only reads
abbrev pub SharedWords : Type 0
SharedWords = Both (Bor (List ℕ)) (Bor (List ℕ))

abbrev pub SharedFloats : Type 0
SharedFloats = Both (Bor (List Float)) (Bor (List Float))

-- what a call may change: as the call finds it, and as it leaves it
pub record Change (A : Type 0) : Type 0 where
  pub from : A
  pub to : A

-- what a slice holds
abbrev pub change : {A : Type 0} → Both (MutBor A) (MutBor A) → Change A
change s = record { from = s.entry.now; to = s.exit.now }
