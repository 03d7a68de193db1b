-- An answer is the refusal `OutOfTable` just where its number is 1, and what does not draw it is there. Assumes
-- nothing.
use mathlib.Core.Bool.{true, false}
use Rattle.std.proofs.Common.{◌≡◌, Bool, nat_eq, Result, Ok, Err, refl}
use Rattle.std.specs.Result.{result_eq}
use Rattle.refusals.specs.Drawn.{number_drawn}
use Rattle.refusals.specs.contracts.RefusalPartialEq
use Rattle.refusals.specs.declared.Refusal.{Refusal}
use Rattle.refusals.specs.declared.Refusal.TheVariants as code
use Rattle.checks.specs.Drawn.{drawn}

pub is_there : (fits within : Bool) → (drawn fits within ≡ 1 → ⊥) → fits ≡ true
unfolding drawn
is_there true within h = refl
is_there false within h = absurd (h refl)

pub is_out_of_table : {A : Type 0} (equal : A → A → Bool) (r : Result A Refusal)
    → result_eq equal RefusalPartialEq.TheImpl.eq-value.it r (Err code.OutOfTable) ≡ nat_eq (number_drawn r) 1
is_out_of_table equal (Ok _) = refl
is_out_of_table equal (Err code.OutOfTable) = refl
is_out_of_table equal (Err code.OverLimit) = refl
is_out_of_table equal (Err code.NoTime) = refl
is_out_of_table equal (Err code.UnevenTrack) = refl
is_out_of_table equal (Err code.KeysOutOfLine) = refl
is_out_of_table equal (Err code.ShortScratch) = refl
is_out_of_table equal (Err code.NoSuchNode) = refl
is_out_of_table equal (Err code.UnplacedNode) = refl
is_out_of_table equal (Err code.NoPalette) = refl
is_out_of_table equal (Err code.ShortOutput) = refl
is_out_of_table equal (Err code.NoCommonRoot) = refl
is_out_of_table equal (Err code.NoSuchFrame) = refl
is_out_of_table equal (Err code.BadForm) = refl
