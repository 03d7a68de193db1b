-- The deltas of a slot as they lie are those of the model; an absent slot is like one with no entries. Assumes nothing.
use mathlib.Core.Path.{◌≡◌, refl, sym, ap, ◌∙◌}
use mathlib.Core.Bool.{Bool, true, false}
use mathlib.Core.List.{List, [], ◌∷◌, map, zip_with}
use mathlib.Core.Option.{Option, none, some}
use Prim.Native.Nat.{ℕ, ◌/◌, max}
use native.Mathlib.Omega.{arith}
use lib.Ieee.{Float, lt}
use lib.ListN.{length, get_or}
use Rattle.float.specs.F32.{◌⊖◌, zero32}
use Rattle.model.specs.Lists.{pick, foldl, tabulate, rows_in, or_else, map_some}
use Rattle.model.specs.Vector.{Vector, ◌⊙◌, ◌⊞◌}
use Rattle.model.specs.Morph.{Station, Segment, inserted, between}
use Rattle.model.proofs.Rowwise.{tabulate-alike, row_count}
use Rattle.tables.specs.declared.Slot.{Slot}
use Rattle.tables.specs.Decoded.{span_in, slot_in}
use Rattle.tables.specs.Tags.{is_marked}
use Rattle.deltas.specs.Deltas.{deltas_in}
use Rattle.deltas.specs.Mixed.{row_or_zeros, mixed_in}
use Rattle.mesh.specs.Stations.{longest_of}
use Rattle.mesh.specs.Blended.{part_of_way, count_in, blended_in}

-- as `Morph` has them
abbrev pub entry_of : Option (List Vector) → ℕ → Vector
entry_of none i = zero32 ∷ zero32 ∷ zero32 ∷ []
entry_of (some l) i = get_or l i (zero32 ∷ zero32 ∷ zero32 ∷ [])

abbrev pub longer : Option (List Vector) → Option ℕ → Option ℕ
longer none n = n
longer (some l) none = some (length l)
longer (some l) (some n) = some (max (length l) n)

-- ---- a slot
module _ (floats : List Float) (s : Slot) where
  pub slot-rows : or_else (slot_in floats s 3) [] ≡ rows_in 3 (deltas_in floats s)
  unfolding deltas_in rows_in tabulate
  slot-rows = go (is_marked s.mark)
    where
      go : (b : Bool) → or_else (pick b (some (rows_in 3 (span_in floats s.part 3))) none) [] ≡ rows_in 3 (pick b (span_in floats s.part 3) [])
      go true = refl
      go false = refl

  pub slot-count : length (or_else (slot_in floats s 3) []) ≡ length (deltas_in floats s) / 3
  slot-count = ap length slot-rows ∙ row_count 3 (deltas_in floats s)

  entry-is : (i : ℕ) → entry_of (slot_in floats s 3) i ≡ row_or_zeros (deltas_in floats s) i
  entry-is i = go (slot_in floats s 3) ∙ ap (λ (l : List Vector). get_or l i (zero32 ∷ zero32 ∷ zero32 ∷ [])) slot-rows
    where
      go : (o : Option (List Vector)) → entry_of o i ≡ get_or (or_else o []) i (zero32 ∷ zero32 ∷ zero32 ∷ [])
      go none = refl
      go (some l) = refl

-- ---- the longest slot
module _ (slot : Station → Option (List Vector)) where
  pub longest-inserted : (s : Station) (l : List Station) → longest_of slot (inserted s l) ≡ max (length (or_else (slot s) [])) (longest_of slot l)
  unfolding inserted longest_of
  longest-inserted s [] = refl
  longest-inserted s (t ∷ l) = go (lt s.weight t.weight) (longest-inserted s l)
    where
      go : (b : Bool) → longest_of slot (inserted s l) ≡ max (length (or_else (slot s) [])) (longest_of slot l) → longest_of slot (pick b (s ∷ t ∷ l) (t ∷ inserted s l)) ≡ max (length (or_else (slot s) [])) (longest_of slot (t ∷ l))
      go true e = refl
      go false e = omega arith

  longest-fold : (n : Option ℕ) (l : List Station) → or_else (foldl (λ (n : Option ℕ) (s : Option (List Vector)). longer s n) n (map slot l)) 0 ≡ max (or_else n 0) (longest_of slot l)
  unfolding foldl longest_of
  longest-fold n [] = omega arith
  longest-fold n (s ∷ l) = longest-fold (longer (slot s) n) l ∙ go (slot s) n
    where
      go : (o : Option (List Vector)) (n : Option ℕ) → max (or_else (longer o n) 0) (longest_of slot l) ≡ max (or_else n 0) (max (length (or_else o [])) (longest_of slot l))
      go none none = omega arith
      go none (some n) = omega arith
      go (some k) none = omega arith
      go (some k) (some n) = omega arith

none-less : (n : ℕ) → max 0 n ≡ n
none-less n = omega arith

mapped : (o : Option ℕ) (f : ℕ → Vector) → or_else (map_some (λ n. tabulate n f) o) [] ≡ tabulate (or_else o 0) f
unfolding tabulate
mapped none f = refl
mapped (some n) f = refl

-- ---- deltas between two stations
module _ (floats : List Float) (slot : Station → Option (List Vector)) (own low high : Slot) (all : List Station) (w : Float) (g : Segment) (n : ℕ) where
  module _ (p : slot g.low ≡ slot_in floats low 3) (q : slot g.high ≡ slot_in floats high 3) (e : n ≡ longest_of slot all) where
    pub deltas-between : or_else (between slot (slot_in floats own 3) all w g) [] ≡ blended_in floats own n (part_of_way w g.low.weight g.high.weight) low high
    unfolding between blended_in deltas_in
    deltas-between =
        let t = part_of_way w g.low.weight g.high.weight in
        let f : ℕ → Vector = λ i. entry_of (slot g.low) i ⊞ t ⊙ zip_with ◌⊖◌ (entry_of (slot g.high) i) (entry_of (slot g.low) i) in
        let a : (i : ℕ) → entry_of (slot g.low) i ≡ row_or_zeros (deltas_in floats low) i = λ i. ap (λ (o : Option (List Vector)). entry_of o i) p ∙ entry-is floats low i in
        let b : (i : ℕ) → entry_of (slot g.high) i ≡ row_or_zeros (deltas_in floats high) i = λ i. ap (λ (o : Option (List Vector)). entry_of o i) q ∙ entry-is floats high i in
        let m : (i : ℕ) → f i ≡ mixed_in t (deltas_in floats low) (deltas_in floats high) i = λ i j. a i j ⊞ t ⊙ zip_with ◌⊖◌ (b i j) (a i j) in
        go (is_marked own.mark) refl
        ∙ tabulate-alike (count_in floats own n) f (mixed_in t (deltas_in floats low) (deltas_in floats high)) (λ i c. m i)
      where
        go : (b : Bool) → is_marked own.mark ≡ b → or_else (between slot (pick b (some (rows_in 3 (span_in floats own.part 3))) none) all w g) [] ≡ tabulate (pick b (length (deltas_in floats own) / 3) n) (λ i. entry_of (slot g.low) i ⊞ part_of_way w g.low.weight g.high.weight ⊙ zip_with ◌⊖◌ (entry_of (slot g.high) i) (entry_of (slot g.low) i))
        go true h = ap (λ (k : ℕ). tabulate k (λ i. entry_of (slot g.low) i ⊞ part_of_way w g.low.weight g.high.weight ⊙ zip_with ◌⊖◌ (entry_of (slot g.high) i) (entry_of (slot g.low) i))) (row_count 3 (span_in floats own.part 3) ∙ ap (λ (c : Bool). length (pick c (span_in floats own.part 3) []) / 3) (sym h))
        go false h = mapped (foldl (λ (n : Option ℕ) (s : Option (List Vector)). longer s n) none (map slot all)) _ ∙ ap (λ (k : ℕ). tabulate k (λ i. entry_of (slot g.low) i ⊞ part_of_way w g.low.weight g.high.weight ⊙ zip_with ◌⊖◌ (entry_of (slot g.high) i) (entry_of (slot g.low) i))) (longest-fold slot none all ∙ none-less (longest_of slot all) ∙ sym e)
