-- Laws about the number that a call draws: it is 0 just where the call is accepted.
use Rattle.std.proofs.Common.{◌≡◌, ℕ, nat_eq, ◌<◌, Bool, true, false, Result, Ok, Err, refl, sym, ap, ◌∙◌, lit<, arith}
use Rattle.std.specs.Result.{is_err, IsErrAnd, result_eq}
use Rattle.std.proofs.lemmas.Result.{err_from_is_err_and}
use Rattle.refusals.specs.Drawn.{number_of, number_drawn}
use Rattle.refusals.specs.contracts.RefusalPartialEq
use Rattle.refusals.specs.declared.Refusal.{Refusal}
use Rattle.refusals.specs.declared.Refusal.TheVariants.{OutOfTable, OverLimit, NoTime, UnevenTrack, KeysOutOfLine}
use Rattle.refusals.specs.declared.Refusal.TheVariants.{ShortScratch, NoSuchNode, UnplacedNode, NoPalette, ShortOutput}
use Rattle.refusals.specs.declared.Refusal.TheVariants.{NoCommonRoot, NoSuchFrame, BadForm}

-- no refusal has the number 0
pub above-none : (r : Refusal) → 0 < number_of r
above-none OutOfTable = lit< tt
above-none OverLimit = lit< tt
above-none NoTime = lit< tt
above-none UnevenTrack = lit< tt
above-none KeysOutOfLine = lit< tt
above-none ShortScratch = lit< tt
above-none NoSuchNode = lit< tt
above-none UnplacedNode = lit< tt
above-none NoPalette = lit< tt
above-none ShortOutput = lit< tt
above-none NoCommonRoot = lit< tt
above-none NoSuchFrame = lit< tt
above-none BadForm = lit< tt

-- where a call is refused, its number is not 0
pub not-none : (r : Refusal) → number_of r ≡ 0 → ⊥
not-none r e = let h = above-none r in omega (arith, h, e)

-- and where it is accepted, it is 0
pub accepted : {A : Type 0} (r : Result A Refusal) → is_err r ≡ false → number_drawn r ≡ 0
accepted (Ok _) e = refl
accepted (Err r) e = cc

pub refused : {A : Type 0} (r : Result A Refusal) → is_err r ≡ true → number_drawn r ≡ 0 → ⊥
refused (Ok _) e = cc
refused (Err r) e = not-none r

-- what a `?` passes on has the number of what it was given
pub passed-on : {A : Type 0} (r : Result A Refusal) (e : Refusal) → IsErrAnd r (λ y. y ≡ e) → r ≡ Err e
passed-on r e h = let p = err_from_is_err_and r h in p.1 ∙ ap Err p.2

-- an answer is a refusal just where it has its number
pub is_keys_out_of_line : {A : Type 0} (equal : A → A → Bool) (r : Result A Refusal)
    → result_eq equal RefusalPartialEq.TheImpl.eq-value.it r (Err KeysOutOfLine) ≡ nat_eq (number_drawn r) 5
is_keys_out_of_line equal (Ok _) = refl
is_keys_out_of_line equal (Err OutOfTable) = refl
is_keys_out_of_line equal (Err OverLimit) = refl
is_keys_out_of_line equal (Err NoTime) = refl
is_keys_out_of_line equal (Err UnevenTrack) = refl
is_keys_out_of_line equal (Err KeysOutOfLine) = refl
is_keys_out_of_line equal (Err ShortScratch) = refl
is_keys_out_of_line equal (Err NoSuchNode) = refl
is_keys_out_of_line equal (Err UnplacedNode) = refl
is_keys_out_of_line equal (Err NoPalette) = refl
is_keys_out_of_line equal (Err ShortOutput) = refl
is_keys_out_of_line equal (Err NoCommonRoot) = refl
is_keys_out_of_line equal (Err NoSuchFrame) = refl
is_keys_out_of_line equal (Err BadForm) = refl

-- and is no acceptance
pub turned-down : {A : Type 0} (r : Result A Refusal) (e : Refusal) (n : ℕ) → IsErrAnd r (λ y. y ≡ e) → number_of e ≡ n
    → (number_drawn r ≡ n) × (number_drawn r ≡ 0 → ⊥)
turned-down r e n h p = let q = ap number_drawn (passed-on r e h) in (q ∙ p, λ z. not-none e (sym q ∙ z))
