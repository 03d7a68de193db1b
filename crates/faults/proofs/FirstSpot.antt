-- Where the tables draw a number there is a first spot that draws it. Assumes nothing.
use mathlib.Core.Path.{◌≡◌, refl, sym, ap}
use mathlib.Core.Bool.{Bool, true, false, ◌||◌, true≢false}
use mathlib.Core.List.{List, [], ◌∷◌}
use Prim.Native.Nat.{ℕ, zero, suc}
use borrow.Author.Tests.{eqb-true, eqb-false, ne_eqb}
use lib.Dec.{eqb, ltb}
use Rattle.model.specs.Lists.{pick, any_of}
use Rattle.tables.specs.Decoded.{Lent}
use Rattle.checks.specs.Drawn.{lower_of, tables_number}
use Rattle.word_checks.specs.Words.{lowest_of}
use Rattle.faults.specs.declared.Fault.{Fault}
use Rattle.faults.specs.Faults.{no_fault, spots, lowest_spot, first_with, First, fault_of}
use Rattle.faults.proofs.Numbers.{spots-lowest}

-- the lower of two is one of them
other-lower : (n a b : ℕ) → (a ≡ n → ⊥) → lower_of a b ≡ n → b ≡ n
unfolding lower_of
other-lower n zero b h e = e
other-lower n (suc a) zero h e = absurd (h e)
other-lower n (suc a) (suc b) h e = go (ltb (suc a) (suc b)) e
  where
    go : (t : Bool) → pick t (suc a) (suc b) ≡ n → suc b ≡ n
    go true p = absurd (h p)
    go false p = p

-- a number that is the lowest of a list, and not 0, is that of a first one
first-there : (n : ℕ) → (n ≡ 0 → ⊥) → (list : List Fault) → lowest_spot list ≡ n → First n list (first_with n list)
unfolding lowest_of first_with any_of
first-there n some [] e = absurd (some (sym e))
first-there n some (f ∷ rest) e = go (eqb f.number n) refl (first-there n some rest)
  where
    go : (b : Bool) → eqb f.number n ≡ b → (lowest_spot rest ≡ n → First n rest (first_with n rest))
        → First n (f ∷ rest) (pick b f (first_with n rest))
    go true p later =
        record { before = []; after = rest; split = refl; number = eqb-true f.number n p; none_before = refl }
    go false p later =
        let r = later (other-lower n f.number (lowest_spot rest) (eqb-false f.number n p) e) in
        record {
          before = f ∷ r.before;
          after = r.after;
          split = ap (λ (l : List Fault). f ∷ l) r.split;
          number = r.number;
          none_before = λ j. p j || r.none_before j;
        }

-- the fault that is told is the first spot that draws the number of the tables
pub fault-first : (l : Lent) → (tables_number l ≡ 0 → ⊥) → First (tables_number l) (spots l) (fault_of l)
unfolding fault_of
fault-first l some = go (eqb (tables_number l) 0) (ne_eqb (tables_number l) 0 some)
  where
    go : (b : Bool) → b ≡ false
        → First (tables_number l) (spots l) (pick b no_fault (first_with (tables_number l) (spots l)))
    go true e = absurd (true≢false e)
    go false e = first-there (tables_number l) some (spots l) (spots-lowest l)

-- its number is that of the tables
pub fault-number : (l : Lent) → (fault_of l).number ≡ tables_number l
unfolding fault_of
fault-number l = go (eqb (tables_number l) 0) refl
  where
    go : (b : Bool) → eqb (tables_number l) 0 ≡ b
        → (pick b no_fault (first_with (tables_number l) (spots l))).number ≡ tables_number l
    go true e = sym (eqb-true (tables_number l) 0 e)
    go false e =
        (first-there (tables_number l) (eqb-false (tables_number l) 0 e) (spots l) (spots-lowest l)).number
