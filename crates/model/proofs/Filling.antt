-- A slice that is filled with results from its start on, one entry a turn. Assumes nothing.
use mathlib.Core.Path.{◌≡◌, refl, sym, ap, ◌∙◌}
use mathlib.Core.List.{List, ◌++◌}
use Prim.Native.Nat.{ℕ, ◌+◌, ◌≤◌, ◌<◌, min}
use native.Mathlib.Nat.{zero-add}
use native.Mathlib.Numerals.{add-one}
use native.Mathlib.Omega.{arith}
use lib.ListN.{length, get_or, take, drop, set}
use lib.Seq.{paste, paste-suc, length-paste}
use Rattle.model.specs.Written.{Wrote}

-- the first i results stand in the slice, and n are wanted
pub record Filled {A : Type 0} (results lent : List A) (n : ℕ) (left : List A) (i : ℕ) : Type 0 where
  pub slice : left ≡ paste lent 0 results i
  pub upto : i ≤ n
  pub all : n ≡ min (length results) (length lent)

module _ {A : Type 0} (results lent : List A) (n : ℕ) where
  pub start : n ≡ min (length results) (length lent) → Filled results lent n lent 0
  start e = record { slice = refl; upto = omega arith; all = e }

  pub same_length : (left : List A) (i : ℕ) → Filled results lent n left i → length left ≡ length lent
  same_length left i f = ap length f.slice ∙ length-paste lent 0 results i (omega (arith, f.all, f.upto)) (omega (arith, f.all, f.upto))

  pub step : (left : List A) (i : ℕ) (x d : A) → Filled results lent n left i → i < n → x ≡ get_or results i d → Filled results lent n (set left i x) (i + 1)
  step left i x d f h e = record {
    slice =
        ap (λ (l : List A). set l i x) f.slice
        ∙ ap (λ (y : A). set (paste lent 0 results i) i y) e
        ∙ ap (λ (k : ℕ). set (paste lent 0 results i) k (get_or results i d)) (sym (zero-add i))
        ∙ paste-suc lent 0 results i d (omega (arith, f.all)) (omega (arith, f.all))
        ∙ ap (λ (k : ℕ). paste lent 0 results k) (sym (add-one i));
    upto = omega arith;
    all = f.all;
  }

  -- a turn reads and writes inside the lists
  pub inside : (left : List A) (i : ℕ) → Filled results lent n left i → i < n → (i < length results) × (i < length left)
  inside left i f h = (omega (arith, f.all), omega (arith, f.all, same_length left i f))

  -- all n results
  pub filled : (left : List A) (i : ℕ) → Filled results lent n left i → n ≤ i → left ≡ take n results ++ drop n lent
  filled left i f h =
      let e : i ≡ n = omega (arith, f.upto) in
      f.slice ∙ ap (paste lent 0 results) e ∙ ap (λ (k : ℕ). take n results ++ drop k lent) (zero-add n)

  pub done : (left : List A) (i : ℕ) → Filled results lent n left i → n ≤ i → Wrote results lent left n
  done left i f h = record { counted = f.all; slice = filled left i f h }
