use mathlib.Core.Path.{◌≡◌, refl, sym, ap, ◌∙◌}
use mathlib.Core.Bool.{true, ◌||◌, not}
use mathlib.Core.Logic.{◌≢◌, ◌⊎◌, inl, inr}
use Prim.Native.Nat.{ℕ}
use borrow.Author.Tests.{eq-eqb, ne_eqb}
use native.Mathlib.Omega.{arith}
use lib.Dec.{eqb}
use Rattle.digits.proofs.DecimalLaws.{decimal-read}
use Rattle.digits.proofs.decimals.up_to_eight.Goals as goal

alone : (x count : ℕ) → (x ≢ 0) ⊎ ((x ≡ 0) × (count ≡ 1)) → (not (eqb x 0) || eqb count 1) ≡ true
alone x count (inl h) = rw (ne_eqb x 0 h) refl
alone x count (inr (e, h)) = rw (eq-eqb x 0 e, eq-eqb count 1 h) refl

pub returns-then-count-eq1 : goal.returns-then-count-eq1
returns-then-count-eq1 c =
    let count = c.digits_before-count.result in
    record {
      few = c.digits_before-count.ensures;
      written = decimal-read _ c.requires c.lowest_first-w.ensures count (omega arith)
          c.digits_before-count.ensures c.padded-p.ensures c.low_halves-d.ensures.0 c.number_of-value.ensures
          c.letters_for.ensures (eq-eqb _ _ c.if-letters_for-p.true)
          (ap (λ (x : ℕ). not (eqb x 0) || eqb count 1) (sym c.first_digit.ensures) ∙ alone _ _ c.if-count-eq1.either);
    }
