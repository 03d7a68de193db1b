-- A result that is copied into an output, by its number and its length. Assumes nothing.
use mathlib.Core.Path.{◌≡◌, refl, sym, ap, ◌∙◌}
use mathlib.Core.List.{List, ◌++◌}
use mathlib.Core.Bool.{Bool, true, false}
use Prim.Native.Nat.{ℕ, zero, suc, ◌≤◌, ◌<◌}
use native.Mathlib.Omega.{arith}
use borrow.Author.Tests.{ne_eqb, lt-ltb, le-ltb, ltb-true, ltb-false}
use lib.Dec.{eqb, ltb}
use lib.Ieee.{Float}
use lib.ListN.{length, drop}
use lib.Seq.{take_all}
use Rattle.model.specs.Lists.{pick}
use Rattle.model.specs.Written.{Wrote}
use Rattle.std.proofs.Common.{Result, Ok, Err}
use Rattle.std.specs.Prelude.{⊤, IsErrAnd}
use Rattle.refusals.specs.declared.Refusal.{Refusal}
use Rattle.refusals.specs.declared.Refusal.TheVariants.{ShortOutput}
use Rattle.refusals.specs.Drawn.{number_of, number_drawn, count_of}
use Rattle.refusals.proofs.Told.{not-none}
use Rattle.refusals.proofs.Numbered.{number_by}
use Rattle.outputs.specs.Output.{output_number, CopiedOut, CopiedBy}

stays : (g n room : ℕ) → (g ≡ 0 → ⊥) → g ≡ output_number g n room
stays zero n room d = absurd (d refl)
stays (suc g) n room d = refl

module _ {A : Type 0} (result lent : List A) where
  pub refused : (g : ℕ) → (g ≡ 0 → ⊥) → CopiedOut g result lent lent g 0
  refused g d = record {
    number = stays g (length result) (length lent) d;
    entries = ap (λ (b : Bool). pick b (length result) 0) (sym (ne_eqb g 0 d));
    slice = ap (λ (b : Bool). pick b (result ++ drop (length result) lent) lent) (sym (ne_eqb g 0 d));
  }

  pub short : (g : ℕ) → g ≡ 0 → length lent < length result → CopiedOut g result lent lent 10 0
  short g z h = record {
    number =
        sym
        ((λ j. output_number (z j) (length result) (length lent))
        ∙ (λ j. pick (lt-ltb (length lent) (length result) h j) 10 0));
    entries = refl;
    slice = refl;
  }

  -- what stands in an output with room for all
  pub written : length result ≤ length lent → (left : List A) (n : ℕ) → Wrote result lent left n
      → (n ≡ length result) × (left ≡ result ++ drop (length result) lent)
  written h left n w =
      let all : n ≡ length result = omega (arith, h, w.counted) in
      (all, w.slice ∙ (λ j. take_all n result (omega (arith, all)) j ++ drop (all j) lent))

  stands : (g : ℕ) → g ≡ 0 → length result ≤ length lent
      → CopiedOut g result lent (result ++ drop (length result) lent) 0 (length result)
  stands g z h = record {
    number =
        sym
        ((λ j. output_number (z j) (length result) (length lent))
        ∙ (λ j. pick (le-ltb (length lent) (length result) h j) 10 0));
    entries = refl;
    slice = refl;
  }

  pub whole : (g : ℕ) → g ≡ 0 → length result ≤ length lent → (left : List A) (n : ℕ) → Wrote result lent left n
      → CopiedOut g result lent left 0 n
  whole g z h left n w =
      let e = written h left n w in
      rw (e.0, e.1) (stands g z h)

-- of a number and a result that are known by definitions
pub copied-as : {A : Type 0} (g drawn : ℕ) (part result lent left : List A) (told count : ℕ) → g ≡ drawn
    → part ≡ result → CopiedOut g part lent left told count → CopiedOut drawn result lent left told count
copied-as g drawn part result lent left told count e p c = record {
  number = c.number ∙ (λ j. output_number (e j) (length (p j)) (length lent));
  entries = c.entries ∙ (λ j. pick (eqb told 0) (length (p j)) 0);
  slice = c.slice ∙ (λ j. pick (eqb told 0) (p j ++ drop (length (p j)) lent) lent);
}

-- ---- by the numbers of refusals, of whatever type these are: that of a short output is 10, and none is 0
module _ {E : Type 0} (number : E → ℕ) where
  abbrev pub count_by : Result ℕ E → ℕ
  count_by (Ok n) = n
  count_by (Err _) = 0

  module _ (gives : Refusal → E → Type 0) (ten : (e : E) → gives ShortOutput e → number e ≡ 10) (result lent left : List Float) where
    ten-told : (told : Result ℕ E) → IsErrAnd told (gives ShortOutput) → (number_by number told ≡ 10) × (count_by told ≡ 0)
    ten-told (Ok n) h = absurd h
    ten-told (Err e) h = (ten e h, refl)

    pub by-numbers : (drawn : Result ⊤ E) (told : Result ℕ E) → ((e : E) → drawn ≡ Err e → number e ≡ 0 → ⊥)
        → CopiedBy gives drawn result lent left told
        → CopiedOut (number_by number drawn) result lent left (number_by number told) (count_by told)
    by-numbers (Err e) told d c =
        let r = c.refused e refl in
        rw (r.0, r.1) (refused result lent (number e) (d e refl))
    by-numbers (Ok u) told d c = go (ltb (length lent) (length result)) refl
      where
        go : (b : Bool) → ltb (length lent) (length result) ≡ b → CopiedOut 0 result lent left (number_by number told) (count_by told)
        go true e =
            let h = ltb-true (length lent) (length result) e in
            let r = c.short refl h in
            let t = ten-told told r.0 in
            rw (t.0, t.1, r.1) (short result lent 0 refl h)
        go false e =
            let h = ltb-false (length lent) (length result) e in
            let r = c.copied refl h in
            rw (r.0, r.1) (stands result lent 0 refl h)

-- ---- by those of the table
pub copies-out : (drawn : Result ⊤ Refusal) (told : Result ℕ Refusal) (result lent left : List Float)
    → CopiedBy (λ r e. e ≡ r) drawn result lent left told
    → CopiedOut (number_drawn drawn) result lent left (number_drawn told) (count_of told)
copies-out drawn told result lent left c =
    go drawn told
    (by-numbers number_of (λ r e. e ≡ r) (λ e q. ap number_of q) result lent left drawn told (λ e q. not-none e) c)
  where
    go : (d : Result ⊤ Refusal) (t : Result ℕ Refusal)
        → CopiedOut (number_by number_of d) result lent left (number_by number_of t) (count_by number_of t)
        → CopiedOut (number_drawn d) result lent left (number_drawn t) (count_of t)
    go (Ok _) (Ok _) h = h
    go (Ok _) (Err _) h = h
    go (Err _) (Ok _) h = h
    go (Err _) (Err _) h = h
