-- The first spot of a number: in a record, in record after record, and in table after table. Assumes nothing.
use mathlib.Core.Path.{◌≡◌, refl, sym, ap, ◌∙◌}
use mathlib.Core.Bool.{Bool, true, false}
use mathlib.Core.List.{List, [], ◌∷◌, ◌++◌, append_assoc}
use Prim.Native.Nat.{ℕ, ◌+◌, min}
use native.Mathlib.Numerals.{add-one}
use borrow.Author.Tests.{eqb-true, eq-eqb, ne_eqb}
use lib.Dec.{eqb}
use Rattle.std.proofs.Common.{Option, Some, None, Result, Ok, Err}
use Rattle.std.specs.Option.{option_or}
use Rattle.refusals.specs.declared.Refusal.{Refusal}
use Rattle.refusals.specs.Drawn.{number_of, number_drawn}
use Rattle.refusals.proofs.Told.{not-none}
use Rattle.model.specs.Lists.{pick}
use Rattle.tracks.specs.declared.Part.{Part}
use Rattle.tables.specs.declared.NodeRow.{NodeRow}
use Rattle.tables.specs.Records.{node_row}
use Rattle.row_checks.specs.declared.Sizes.{Sizes}
use Rattle.row_checks.specs.Places.{fits_in}
use Rattle.row_checks.specs.Bounds.{is_known}
use Rattle.checks.specs.declared.Table.{Table}
use Rattle.checks.specs.declared.Table.TheVariants as table
use Rattle.checks.specs.Drawn.{entry_cap}
use Rattle.checks.proofs.Lowest.{capped-number}
use Rattle.word_checks.specs.Words.{Asked, word_drawn, leaves, over, asks, nothing, first_asked, base_asked, held_asked, node_asked, row_asked}
use Rattle.faults.specs.declared.Fault.{Fault}
use Rattle.word_checks.proofs.ByNumber.{same-number}
use Rattle.faults.specs.declared.Spot.{Spot}
use Rattle.faults.specs.Faults.{spot, no_fault, word_spots, spots_below, first_with, spot_told}

-- ---- in two lists
-- a fault, or else a later one
sooner : Fault → Fault → Fault
sooner a b = pick (eqb a.number 0) b a

-- of two spots, as they are told
told-either : (a b : Option Spot) → spot_told (option_or a b) ≡ sooner (spot_told a) (spot_told b)
unfolding sooner
told-either None b = refl
told-either (Some s) b =
    ap (λ (t : Bool). pick t (spot_told b) (spot_told (Some s))) (sym (ne_eqb (number_of s.refusal) 0 (not-none s.refusal)))

module _ (n : Refusal) where
  abbrev first : List Fault → Fault
  first list = first_with (number_of n) list

  -- a number that is sought is not 0
  not_none : (m : ℕ) → eqb m (number_of n) ≡ true → eqb m 0 ≡ false
  not_none m e = ne_eqb m 0 (λ z. not-none n (sym (eqb-true m (number_of n) e) ∙ z))

  first-append : (xs ys : List Fault) → first (xs ++ ys) ≡ sooner (first xs) (first ys)
  unfolding first_with sooner
  first-append [] ys = refl
  first-append (x ∷ xs) ys = go (eqb x.number (number_of n)) refl (first-append xs ys)
    where
      go : (b : Bool) → eqb x.number (number_of n) ≡ b
          → first (xs ++ ys) ≡ sooner (first xs) (first ys)
          → pick b x (first (xs ++ ys)) ≡ sooner (pick b x (first xs)) (first ys)
      go true e h = ap (λ (b : Bool). pick b (first ys) x) (sym (not_none x.number e))
      go false e h = h

  -- a spot of the first list, or else one of the second
  pub found-either : (xs ys : List Fault) (a b r : Option Spot)
      → spot_told a ≡ first xs → spot_told b ≡ first ys → r ≡ option_or a b → spot_told r ≡ first (xs ++ ys)
  found-either xs ys a b r f g e =
      ap spot_told e ∙ told-either a b ∙ (λ j. sooner (f j) (g j)) ∙ sym (first-append xs ys)

  -- ---- in a record
  -- a word as the code answers it, told as a fault of its record
  fault_at : ℕ → ℕ → Asked → Fault
  fault_at table i a = pick (eqb a.number 0) no_fault (spot table i a.word a.number)

  first_word : (t i : ℕ) (asked : List Asked)
      → fault_at t i (first_asked (number_of n) asked nothing) ≡ first (word_spots t i asked)
  unfolding first_with first_asked fault_at word_spots
  first_word t i [] = refl
  first_word t i (a ∷ rest) = go (eqb a.number (number_of n)) refl (first_word t i rest)
    where
      go : (b : Bool) → eqb a.number (number_of n) ≡ b
          → fault_at t i (first_asked (number_of n) rest nothing) ≡ first (word_spots t i rest)
          → fault_at t i (pick b a (first_asked (number_of n) rest nothing))
          ≡ pick b (spot t i a.word a.number) (first (word_spots t i rest))
      go true e h =
          ap (λ (b : Bool). pick b no_fault (spot t i a.word a.number)) (not_none a.number e)
      go false e h = h

  module _ (t i : ℕ) (asked : List Asked) where
    pub word-found : (w : ℕ) → word_drawn n (Some w) ≡ first_asked (number_of n) asked nothing
        → spot t i w (number_of n) ≡ first (word_spots t i asked)
    unfolding fault_at
    word-found w e =
        ap (λ (b : Bool). pick b no_fault (spot t i w (number_of n))) (sym (ne_eqb (number_of n) 0 (not-none n)))
        ∙ ap (fault_at t i) e ∙ first_word t i asked

    pub no-word : word_drawn n None ≡ first_asked (number_of n) asked nothing → no_fault ≡ first (word_spots t i asked)
    unfolding fault_at
    no-word e = ap (fault_at t i) e ∙ first_word t i asked

  -- ---- record after record
  pub found-more : (f : ℕ → List Fault) (i : ℕ) (a b r : Option Spot)
      → spot_told a ≡ first (spots_below i f) → spot_told b ≡ first (f i) → r ≡ option_or a b
      → spot_told r ≡ first (spots_below (i + 1) f)
  unfolding spots_below
  found-more f i a b r p q e =
      found-either (spots_below i f) (f i) a b r p q e
      ∙ ap (λ (k : ℕ). first (spots_below k f)) (sym (add-one i))

  -- ---- a table itself
  module _ (t m : ℕ) (rest : List Fault) where
    pub itself : m ≡ number_of n → spot t 0 16 (number_of n) ≡ first (spot t 0 16 m ∷ rest)
    unfolding first_with
    itself e = λ j. pick (sym (eq-eqb m (number_of n) e) j) (spot t 0 16 (sym e j)) (first rest)

    pub later : (m ≡ number_of n → ⊥) → first rest ≡ first (spot t 0 16 m ∷ rest)
    unfolding first_with
    later h = ap (λ (b : Bool). pick b (spot t 0 16 m) (first rest)) (sym (ne_eqb m (number_of n) h))

-- ---- lists one after the other
pub four-lists : {A : Type 0} (a b c d : List A) → ((a ++ b) ++ c) ++ d ≡ a ++ (b ++ (c ++ d))
four-lists a b c d = append_assoc (a ++ b) c d ∙ append_assoc a b (c ++ d)

pub five-lists : {A : Type 0} (a b c d e : List A) → (((a ++ b) ++ c) ++ d) ++ e ≡ a ++ (b ++ (c ++ (d ++ e)))
five-lists a b c d e = append_assoc ((a ++ b) ++ c) d e ∙ four-lists a b c (d ++ e)

-- an answer has the number of a refusal just where it is that refusal
pub drawn-same : {A : Type 0} (r : Result A Refusal) (n : Refusal) → number_drawn r ≡ number_of n → r ≡ Err n
drawn-same (Ok _) n e = absurd (not-none n (sym e))
drawn-same (Err r) n e = ap Err (same-number r n e)

-- ---- child entries
-- what a node is asked by the capped sum it is asked by the sum
node-capped : (s : Sizes) (r : NodeRow) (sum : ℕ) → node_asked s r (min sum entry_cap) ≡ node_asked s r sum
unfolding node_asked
node-capped s r sum =
    ap
    (λ (m : ℕ).
    base_asked s r
    ++ (asks 2 (leaves (fits_in r.children 1 s.words))
    ∷ asks 3 m
    ∷ asks 4 (over (is_known r.mesh.mark 1))
    ∷ asks 6 (over (is_known r.skin.mark 1))
    ∷ held_asked r.weights s.node_weights))
    (capped-number sum)

pub row-capped : (words : List ℕ) (s : Sizes) (t : Part) (k : Table) (i sum : ℕ)
    → row_asked words s t k i (min sum entry_cap) ≡ row_asked words s t k i sum
row-capped words s t table.Nodes i sum = node-capped s (node_row words t i) sum
row-capped words s t table.Channels i sum = refl
row-capped words s t table.Meshes i sum = refl
row-capped words s t table.Primitives i sum = refl
row-capped words s t table.Targets i sum = refl
row-capped words s t table.InBetweens i sum = refl
row-capped words s t table.Skins i sum = refl
row-capped words s t table.Skeletons i sum = refl
