-- Lines and columns are counted byte by byte. Assumes nothing.
use mathlib.Core.Path.{◌≡◌, refl, sym, ap, ◌∙◌}
use mathlib.Core.Bool.{Bool, true, false}
use mathlib.Core.List.{List}
use Prim.Native.Nat.{ℕ, ◌+◌, ◌≤◌, ◌<◌}
use native.Mathlib.Omega.{arith}
use lib.Dec.{eqb}
use lib.ListN.{length, get_or, take}
use lib.Seq.{take_all}
use Rattle.model.specs.Lists.{pick, foldl}
use Rattle.model.proofs.ListLaws.{foldl-more}
use Rattle.text_breaks.specs.Lines.{line_on, column_on}

-- n has been counted over the first i bytes
pub record Counted (step : ℕ → ℕ → ℕ) (before : List ℕ) (i n : ℕ) : Type 0 where
  pub so_far : n ≡ foldl step 1 (take i before)
  pub few : n ≤ i + 1
  pub inside : i ≤ length before

pub counted_none : (step : ℕ → ℕ → ℕ) (before : List ℕ) → Counted step before 0 1
unfolding foldl
counted_none step before = record { so_far = refl; few = omega arith; inside = omega arith }

module _ {step : ℕ → ℕ → ℕ} {before : List ℕ} {i n : ℕ} (c : Counted step before i n) where
  pub counted-more : {m : ℕ} → ((k b : ℕ) → step k b ≤ k + 1) → i < length before → m ≡ step n (get_or before i 0)
      → Counted step before (i + 1) m
  counted-more l h e = record {
    so_far = e ∙ ap (λ (k : ℕ). step k (get_or before i 0)) c.so_far ∙ sym (foldl-more step 1 before i 0 h);
    few = omega (arith, e, l n (get_or before i 0));
    inside = omega arith;
  }

  pub counted-all : length before ≤ i → n ≡ foldl step 1 before
  counted-all h = c.so_far ∙ ap (foldl step 1) (take_all i before h)

-- one byte adds one at most
pub line-little : (line b : ℕ) → line_on line b ≤ line + 1
line-little line b = go (eqb b 10)
  where
    go : (t : Bool) → pick t (line + 1) line ≤ line + 1
    go true = omega arith
    go false = omega arith

pub column-little : (column b : ℕ) → column_on column b ≤ column + 1
column-little column b = go (eqb b 10)
  where
    go : (t : Bool) → pick t 1 (column + 1) ≤ column + 1
    go true = omega arith
    go false = omega arith
