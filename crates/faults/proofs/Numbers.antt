-- The lowest number that a spot draws is the number of the tables: record by record, then table by table. Assumes
-- nothing.
use mathlib.Core.Path.{◌≡◌, refl, sym, ap, ◌∙◌}
use mathlib.Core.Bool.{Bool, true, false}
use mathlib.Core.List.{List, ◌++◌}
use Prim.Native.Nat.{ℕ, zero, suc, ◌+◌}
use native.Mathlib.Omega.{arith}
use borrow.Author.Tests.{leb-false, lt-leb}
use lib.Dec.{leb}
use lib.ListN.{length}
use Rattle.model.specs.Limits.{child_entry_limit}
use Rattle.tables.specs.Records.{node_row, channel_row, mesh_row, primitive_row, target_row, in_between_row, skin_row}
use Rattle.tables.specs.Records.{skeleton_row}
use Rattle.tables.specs.Decoded.{Lent}
use Rattle.checks.specs.declared.Table.{Table}
use Rattle.checks.specs.declared.Table.TheVariants as table
use Rattle.checks.specs.Drawn.{drawn, lower_of, lowest_below, sum_below, node_number, channel_number, mesh_number}
use Rattle.checks.specs.Drawn.{primitive_number, target_number, in_between_number, skin_number, skeleton_number, row_number}
use Rattle.checks.specs.Drawn.{table_of, table_number, whole_number, roots_number, entries_number, children_number}
use Rattle.checks.specs.Drawn.{listed_number, sizes_of, tables_number}
use Rattle.word_checks.specs.Words.{Asked, row_asked, lowest_of, lowest_asked}
use Rattle.word_checks.proofs.Lower.{lower-right, lower-assoc, lower-left-comm, lowest-append, lowest-map}
use Rattle.word_checks.proofs.AskedLaws.{node-asked, channel-asked, mesh-asked, primitive-asked, target-asked}
use Rattle.word_checks.proofs.AskedLaws.{in-between-asked, skin-asked, skeleton-asked}
use Rattle.faults.specs.declared.Fault.{Fault}
use Rattle.faults.specs.Faults.{spot, table_index, entry_count, word_spots, spots_below, rows_spots}
use Rattle.faults.specs.Faults.{table_spots, roots_spots, mesh_spots, skin_spots, spots_for, spots, lowest_spot}

-- ---- child entries
entries-grow : (a b : ℕ) → lower_of (entries_number a) (entries_number (a + b)) ≡ entries_number (a + b)
unfolding drawn lower_of
entries-grow a b = go (leb a child_entry_limit) refl
  where
    go : (t : Bool) → leb a child_entry_limit ≡ t
        → lower_of (entries_number a) (entries_number (a + b)) ≡ entries_number (a + b)
    go true e = ap (λ (t : Bool). lower_of (drawn true t) (entries_number (a + b))) e
    go false e =
        let h = leb-false a child_entry_limit e in
        let more = lt-leb (a + b) child_entry_limit (omega arith) in
        (λ j. lower_of (drawn true (e j)) (drawn true (more j))) ∙ sym (ap (drawn true) more)

-- the first node that passes the limit draws what all draw together
entries-lowest : (n : ℕ) (f : ℕ → ℕ)
    → lowest_below n (λ (i : ℕ). entries_number (sum_below (suc i) f)) ≡ entries_number (sum_below n f)
unfolding lowest_below sum_below drawn
entries-lowest zero f = refl
entries-lowest (suc n) f =
    ap (λ (m : ℕ). lower_of m (entries_number (sum_below n f + f n))) (entries-lowest n f)
    ∙ entries-grow (sum_below n f) (f n)

no-sum : (n : ℕ) (f : ℕ → ℕ) → ((i : ℕ) → f i ≡ 0) → sum_below n f ≡ 0
unfolding sum_below
no-sum zero f h = refl
no-sum (suc n) f h = omega (arith, no-sum n f h, h n)

no-entries : (a n : ℕ) (f : ℕ → ℕ) → ((i : ℕ) → f i ≡ 0) → a ≡ lower_of a (entries_number (sum_below n f))
unfolding drawn
no-entries a n f h = sym (lower-right a) ∙ ap (λ (m : ℕ). lower_of a (entries_number m)) (sym (no-sum n f h))

-- ---- the first n records
swap : (p q r s : ℕ) → lower_of (lower_of p q) (lower_of r s) ≡ lower_of (lower_of p r) (lower_of q s)
swap p q r s = simp (lower-assoc, lower-left-comm)

below_alike : (n : ℕ) (f g : ℕ → ℕ) → ((i : ℕ) → f i ≡ g i) → lowest_below n f ≡ lowest_below n g
unfolding lowest_below
below_alike zero f g h = refl
below_alike (suc n) f g h = λ j. lower_of (below_alike n f g h j) (h n j)

below-lower : (n : ℕ) (f g : ℕ → ℕ)
    → lowest_below n (λ (i : ℕ). lower_of (f i) (g i)) ≡ lower_of (lowest_below n f) (lowest_below n g)
unfolding lowest_below lower_of
below-lower zero f g = refl
below-lower (suc n) f g =
    ap (λ (m : ℕ). lower_of m (lower_of (f n) (g n))) (below-lower n f g)
    ∙ swap (lowest_below n f) (lowest_below n g) (f n) (g n)

below-spots : (n : ℕ) (f : ℕ → List Fault) → lowest_spot (spots_below n f) ≡ lowest_below n (λ (i : ℕ). lowest_spot (f i))
unfolding spots_below lowest_below lowest_of
below-spots zero f = refl
below-spots (suc n) f =
    lowest-append (λ (f : Fault). f.number) (spots_below n f) (f n)
    ∙ ap (λ (m : ℕ). lower_of m (lowest_spot (f n))) (below-spots n f)

word-spots : (t i : ℕ) (asked : List Asked) → lowest_spot (word_spots t i asked) ≡ lowest_asked asked
unfolding word_spots
word-spots t i asked =
    lowest-map (λ (f : Fault). f.number) (λ (a : Asked). spot t i a.word a.number) asked

-- ---- records
module _ (l : Lent) where
  -- what is asked of a record word by word is what `tables_number` asks of it, and of a node also of its child entries
  pub record-asked : (k : Table) (i : ℕ)
      → let t = table_of l.header k in
      let entries = sum_below (suc i) (entry_count l.words t k) in
      lowest_asked (row_asked l.words (sizes_of l) t k i entries)
      ≡ lower_of (row_number l.words l.floats (sizes_of l) t k i) (entries_number entries)
  unfolding node_number channel_number mesh_number primitive_number target_number in_between_number skin_number skeleton_number
  record-asked table.Nodes i = node-asked (sizes_of l) (node_row l.words l.header.graph.nodes i) _
  record-asked table.Channels i =
      channel-asked (sizes_of l) (channel_row l.words l.header.channels i) l.floats refl
      ∙ no-entries _ (suc i) _ (λ i. refl)
  record-asked table.Meshes i =
      mesh-asked (sizes_of l) (mesh_row l.words l.header.meshes.meshes i) ∙ no-entries _ (suc i) _ (λ i. refl)
  record-asked table.Primitives i =
      primitive-asked (sizes_of l) (primitive_row l.words l.header.meshes.primitives i)
      ∙ no-entries _ (suc i) _ (λ i. refl)
  record-asked table.Targets i =
      target-asked (sizes_of l) (target_row l.words l.header.meshes.targets i)
      ∙ no-entries _ (suc i) _ (λ i. refl)
  record-asked table.InBetweens i =
      in-between-asked (sizes_of l) (in_between_row l.words l.header.meshes.in_betweens i)
      ∙ no-entries _ (suc i) _ (λ i. refl)
  record-asked table.Skins i =
      skin-asked (skin_row l.words l.header.skins.skins i) ∙ no-entries _ (suc i) _ (λ i. refl)
  record-asked table.Skeletons i =
      skeleton-asked (sizes_of l) (skeleton_row l.words l.header.skins.skeletons i)
      ∙ no-entries _ (suc i) _ (λ i. refl)

  -- ---- tables
  whole : Table → ℕ
  whole k = whole_number l.words l.floats (sizes_of l) l.header k

  -- a table with its records, and the child entries of all of them
  table-lowest : (k : Table)
      → lowest_spot (table_spots l.words (sizes_of l) l.header k)
      ≡ lower_of (whole k)
      (entries_number (sum_below (table_of l.header k).count (entry_count l.words (table_of l.header k) k)))
  unfolding table_spots lowest_of whole_number whole
  table-lowest k =
      let t = table_of l.header k in
      let f = entry_count l.words t k in
      let row = row_number l.words l.floats (sizes_of l) t k in
      let asked : ℕ → List Asked = λ i. row_asked l.words (sizes_of l) t k i (sum_below (suc i) f) in
      let number = table_number (length l.words) t k in
      let rows : lowest_spot (rows_spots l.words (sizes_of l) t k)
      ≡ lower_of (lowest_below t.count row) (entries_number (sum_below t.count f))
      = below-spots t.count (λ (i : ℕ). word_spots (table_index k) i (asked i))
      ∙ below_alike t.count _ _ (λ (i : ℕ). word-spots (table_index k) i (asked i) ∙ record-asked k i)
      ∙ below-lower t.count row (λ (i : ℕ). entries_number (sum_below (suc i) f))
      ∙ ap (lower_of (lowest_below t.count row)) (entries-lowest t.count f) in
      ap (lower_of number) rows
      ∙ sym (lower-assoc number (lowest_below t.count row) (entries_number (sum_below t.count f)))

  plain-lowest : (k : Table) → ((i : ℕ) → entry_count l.words (table_of l.header k) k i ≡ 0)
      → lowest_spot (table_spots l.words (sizes_of l) l.header k) ≡ whole k
  plain-lowest k h = table-lowest k ∙ sym (no-entries (whole k) (table_of l.header k).count _ h)

  two-lists : (xs ys : List Fault) (m n : ℕ) → lowest_spot xs ≡ m → lowest_spot ys ≡ n
      → lowest_spot (xs ++ ys) ≡ lower_of m n
  two-lists xs ys m n p q = lowest-append (λ (f : Fault). f.number) xs ys ∙ (λ j. lower_of (p j) (q j))

  roots-lowest : lowest_spot (roots_spots (length l.words) l.header.graph.roots)
      ≡ roots_number (length l.words) l.header.graph.roots
  unfolding roots_spots lowest_of
  roots-lowest = lower-right (roots_number (length l.words) l.header.graph.roots)

  -- the lowest number of all spots is the number of the tables
  pub spots-lowest : lowest_spot (spots l) ≡ tables_number l
  unfolding spots_for mesh_spots skin_spots tables_number listed_number children_number whole
  spots-lowest =
      let m = two-lists _ _ _ _ (plain-lowest table.Meshes (λ i. refl))
      (two-lists _ _ _ _ (plain-lowest table.Primitives (λ i. refl))
      (two-lists _ _ _ _ (plain-lowest table.Targets (λ i. refl)) (plain-lowest table.InBetweens (λ i. refl)))) in
      let s = two-lists _ _ _ _ (plain-lowest table.Skins (λ i. refl)) (plain-lowest table.Skeletons (λ i. refl)) in
      two-lists _ _ _ _ (table-lowest table.Nodes)
      (two-lists _ _ _ _ roots-lowest
      (two-lists _ _ _ _ (plain-lowest table.Channels (λ i. refl)) (two-lists _ _ _ _ m s)))
      ∙ simp lower-assoc
