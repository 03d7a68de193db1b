-- The lowest of drawn numbers, and sums, number by number. Assumes nothing.
use mathlib.Core.Path.{◌≡◌, refl, sym, ap, ◌∙◌}
use mathlib.Core.Bool.{Bool, true, false}
use Prim.Native.Nat.{ℕ, zero, suc, ◌+◌, ◌≤◌, ◌<◌, min}
use native.Mathlib.Numerals.{add-one}
use native.Mathlib.Omega.{arith}
use borrow.Author.Tests.{lt-ltb, le-ltb, leb-true, leb-false, le-leb, lt-leb}
use lib.Dec.{leb}
use Rattle.model.specs.Lists.{pick}
use Rattle.model.specs.Limits.{child_entry_limit}
use Rattle.checks.specs.Drawn.{drawn, entry_cap, lower_of, lowest_below, sum_below, entries_number}

-- ---- the lower of two
pub first-none : (a b : ℕ) → a ≡ 0 → b ≡ lower_of a b
unfolding lower_of
first-none a b e = ap (λ (x : ℕ). lower_of x b) (sym e)

pub second_none : (a b : ℕ) → (a ≡ 0 → ⊥) → b ≡ 0 → a ≡ lower_of a b
unfolding lower_of
second_none zero b h e = absurd (h refl)
second_none (suc a) b h e = ap (lower_of (suc a)) (sym e)

pub first-lower : (a b : ℕ) → (a ≡ 0 → ⊥) → (b ≡ 0 → ⊥) → a < b → a ≡ lower_of a b
unfolding lower_of
first-lower zero b h g l = absurd (h refl)
first-lower (suc a) zero h g l = absurd (g refl)
first-lower (suc a) (suc b) h g l = ap (λ t. pick t (suc a) (suc b)) (sym (lt-ltb (suc a) (suc b) l))

pub second-lower : (a b : ℕ) → (a ≡ 0 → ⊥) → (b ≡ 0 → ⊥) → b ≤ a → b ≡ lower_of a b
unfolding lower_of
second-lower zero b h g l = absurd (h refl)
second-lower (suc a) zero h g l = absurd (g refl)
second-lower (suc a) (suc b) h g l = ap (λ t. pick t (suc a) (suc b)) (sym (le-ltb (suc a) (suc b) l))

-- nothing is below 1
pub one-first : (a b : ℕ) → a ≡ 1 → 1 ≡ lower_of a b
unfolding lower_of
one-first a zero e = sym (ap (λ (x : ℕ). lower_of x 0) e)
one-first a (suc zero) e = sym (ap (λ (x : ℕ). lower_of x 1) e)
one-first a (suc (suc b)) e = ap (λ t. pick t 1 (suc (suc b))) (sym (lt-ltb 1 (suc (suc b)) (omega arith))) ∙ sym (ap (λ (x : ℕ). lower_of x (suc (suc b))) e)

-- ---- one more of a table
module _ (f : ℕ → ℕ) where
  pub lowest-more : (i a r b : ℕ) → a ≡ lowest_below i f → r ≡ f i → b ≡ lower_of a r → b ≡ lowest_below (i + 1) f
  unfolding lowest_below
  lowest-more i a r b e g h = h ∙ (λ j. lower_of (e j) (g j)) ∙ ap (λ (n : ℕ). lowest_below n f) (sym (add-one i))

  pub sum_more : (i a r b : ℕ) → a ≡ min (sum_below i f) entry_cap → r ≡ f i → b ≡ min (a + r) entry_cap → b ≡ min (sum_below (i + 1) f) entry_cap
  unfolding sum_below
  sum_more i a r b e g h = let s : b ≡ min (sum_below (suc i) f) entry_cap = omega arith in s ∙ ap (λ (n : ℕ). min (sum_below n f) entry_cap) (sym (add-one i))

-- ---- child entries
-- the capped sum is over its limit where the sum is
pub capped-number : (sum : ℕ) → entries_number (min sum entry_cap) ≡ entries_number sum
capped-number sum = go (leb sum child_entry_limit) refl
  where
    go : (b : Bool) → leb sum child_entry_limit ≡ b → entries_number (min sum entry_cap) ≡ entries_number sum
    go true e =
        let h = leb-true sum child_entry_limit e in
        ap (drawn true) (le-leb (min sum entry_cap) child_entry_limit (omega arith) ∙ sym e)
    go false e =
        let h = leb-false sum child_entry_limit e in
        ap (drawn true) (lt-leb (min sum entry_cap) child_entry_limit (omega arith) ∙ sym e)
