-- Tables that draw neither 1 nor 2 are checked. Assumes nothing.
use mathlib.Core.Path.{◌≡◌, refl, sym, ap, ◌∙◌, subst}
use mathlib.Core.Bool.{Bool, true, false, ◌&&◌}
use mathlib.Core.List.{List}
use Prim.Native.Nat.{ℕ, zero, suc, ◌+◌, ◌*◌, ◌≤◌, ◌<◌}
use native.Mathlib.Omega.{arith}
use borrow.Author.Tests.{leb-true, eqb-true, eqb-false}
use lib.Dec.{eqb, ltb}
use lib.ListN.{length, drop, length-take, length-drop}
use Rattle.model.specs.Lists.{pick, tabulate, sum_of}
use Rattle.model.specs.Scene.{Node}
use Rattle.model.specs.Placing.{child_entries}
use Rattle.model.proofs.ListLaws.{length-tabulate}
use Rattle.model.proofs.Tests.{both}
use Rattle.tracks.specs.declared.Part.{Part}
use Rattle.tables.specs.declared.NodeRow.{NodeRow}
use Rattle.tables.specs.Records.{node_row}
use Rattle.tables.specs.Decoded.{Lent, span_in, node_of, scene_of}
use Rattle.row_checks.specs.declared.Sizes.{Sizes}
use Rattle.row_checks.specs.Places.{fits_in, slot_fits, base_floats, node_fits}
use Rattle.checks.specs.declared.Table.{Table}
use Rattle.checks.specs.declared.Table.TheVariants as table
use Rattle.checks.specs.Drawn.{drawn, lower_of, lowest_below, sum_below, node_number, channel_number, mesh_number, primitive_number, target_number, in_between_number, skin_number, skeleton_number, row_number, table_of, record_words, count_within, whole_number, roots_number, child_count, children_number, listed_number, sizes_of, tables_number}
use Rattle.checks.specs.Checked.{Sound, Checked}

-- ---- numbers that are 0
some_number : (t : Bool) (a b : ℕ) → pick t (suc a) (suc b) ≡ 0 → ⊥
some_number true a b h = omega (arith, h)
some_number false a b h = omega (arith, h)

lower-none : (a b : ℕ) → lower_of a b ≡ 0 → (a ≡ 0) × (b ≡ 0)
unfolding lower_of
lower-none zero b h = (refl, h)
lower-none (suc a) zero h = absurd (omega arith)
lower-none (suc a) (suc b) h = absurd (some_number (ltb (suc a) (suc b)) a b h)

drawn-none : (f w : Bool) → drawn f w ≡ 0 → (f ≡ true) × (w ≡ true)
unfolding drawn
drawn-none true true h = (refl, refl)
drawn-none true false h = absurd (omega arith)
drawn-none false w h = absurd (omega arith)

lowest-none : (n : ℕ) (f : ℕ → ℕ) → lowest_below n f ≡ 0 → (i : ℕ) → i < n → f i ≡ 0
unfolding lowest_below
lowest-none zero f h i l = absurd (omega arith)
lowest-none (suc n) f h i l =
    let z = lower-none (lowest_below n f) (f n) h in
    go (eqb i n) refl (λ b. lowest-none n f z.0 i b) z.1
  where
    go : (b : Bool) → eqb i n ≡ b → (i < n → f i ≡ 0) → f n ≡ 0 → f i ≡ 0
    go true e before last = ap f (eqb-true i n e) ∙ last
    go false e before last = let ne = eqb-false i n e in before (omega (arith, ne))

-- ---- parts and sums
part_length : {A : Type 0} (l : List A) (p : Part) → fits_in p 1 (length l) ≡ true → length (span_in l p 1) ≡ p.count
part_length l p h =
    let fits = leb-true (p.at + p.count * 1) (length l) h in
    omega (arith, length-take (p.count * 1) (drop p.at l), length-drop p.at l)

sum-front : (n : ℕ) (f : ℕ → ℕ) → sum_below (suc n) f ≡ f 0 + sum_below n (λ i. f (suc i))
unfolding sum_below
sum-front zero f = omega arith
sum-front (suc n) f = omega (arith, sum-front n f)

sum-tabulated : {A : Type 0} (n : ℕ) (f : ℕ → A) (g : A → ℕ) → sum_of g (tabulate n f) ≡ sum_below n (λ i. g (f i))
unfolding sum_of tabulate sum_below
sum-tabulated zero f g = refl
sum-tabulated (suc n) f g = ap (λ (m : ℕ). g (f 0) + m) (sum-tabulated n (λ i. f (suc i)) g) ∙ sym (sum-front n (λ i. g (f i)))

sum_alike : (n : ℕ) (f g : ℕ → ℕ) → ((i : ℕ) → i < n → f i ≡ g i) → sum_below n f ≡ sum_below n g
unfolding sum_below
sum_alike zero f g h = refl
sum_alike (suc n) f g h = (λ j. sum_alike n f g (λ i l. h i (omega arith)) j + h n (omega arith) j)

-- a node whose parts lie in their tables has its child list in the words
children-fit : (s : Sizes) (r : NodeRow) → node_fits s r ≡ true → fits_in r.children 1 s.words ≡ true
children-fit s r h =
    let rest = fits_in r.children 1 s.words && slot_fits r.weights 1 s.node_weights in
    (both _ (slot_fits r.weights 1 s.node_weights) (both (fits_in (record { at = r.base; count = base_floats r.form }) 1 s.floats) rest h).1).0

-- ---- the tables
module _ (l : Lent) (h : tables_number l ≡ 0) where
  number : Table → ℕ
  number k = whole_number l.words l.floats (sizes_of l) l.header k

  others : (lower_of (children_number l.words l.header.graph.nodes) (lower_of (roots_number (length l.words) l.header.graph.roots) (listed_number l.words l.floats (sizes_of l) l.header))) ≡ 0
  unfolding tables_number
  others = (lower-none _ _ h).1

  no-roots : roots_number (length l.words) l.header.graph.roots ≡ 0
  no-roots = (lower-none _ _ (lower-none _ _ others).1).0

  from_list : (k : Table) → number k ≡ 0
  unfolding tables_number listed_number number
  from_list table.Nodes = (lower-none _ _ h).0
  from_list table.Channels = (lower-none _ _ (lower-none _ _ (lower-none _ _ others).1).1).0
  from_list table.Meshes = (lower-none _ _ (lower-none _ _ (lower-none _ _ (lower-none _ _ others).1).1).1).0
  from_list table.Primitives = (lower-none _ _ (lower-none _ _ (lower-none _ _ (lower-none _ _ (lower-none _ _ others).1).1).1).1).0
  from_list table.Targets = (lower-none _ _ (lower-none _ _ (lower-none _ _ (lower-none _ _ (lower-none _ _ (lower-none _ _ others).1).1).1).1).1).0
  from_list table.InBetweens = (lower-none _ _ (lower-none _ _ (lower-none _ _ (lower-none _ _ (lower-none _ _ (lower-none _ _ (lower-none _ _ others).1).1).1).1).1).1).0
  from_list table.Skins = (lower-none _ _ (lower-none _ _ (lower-none _ _ (lower-none _ _ (lower-none _ _ (lower-none _ _ (lower-none _ _ (lower-none _ _ others).1).1).1).1).1).1).1).0
  from_list table.Skeletons = (lower-none _ _ (lower-none _ _ (lower-none _ _ (lower-none _ _ (lower-none _ _ (lower-none _ _ (lower-none _ _ (lower-none _ _ others).1).1).1).1).1).1).1).1

  in_words : (k : Table) → (fits_in (table_of l.header k) (record_words k) (length l.words) ≡ true) × (count_within k (table_of l.header k).count ≡ true)
  unfolding whole_number number
  in_words k = drawn-none _ _ (lower-none _ _ (from_list k)).0

  no_row : (k : Table) (i : ℕ) → i < (table_of l.header k).count → row_number l.words l.floats (sizes_of l) (table_of l.header k) k i ≡ 0
  unfolding whole_number number
  no_row k i b = lowest-none _ _ (lower-none _ _ (from_list k)).1 i b

  sound : (k : Table) (i : ℕ) → i < (table_of l.header k).count → Sound l k i
  unfolding node_number channel_number mesh_number primitive_number target_number in_between_number skin_number skeleton_number
  sound table.Nodes i b = drawn-none _ _ (no_row table.Nodes i b)
  sound table.Channels i b = let n = lower-none _ _ (no_row table.Channels i b) in (n.0, (drawn-none true _ n.1).1)
  sound table.Meshes i b = drawn-none _ _ (no_row table.Meshes i b)
  sound table.Primitives i b = drawn-none _ _ (no_row table.Primitives i b)
  sound table.Targets i b = drawn-none _ _ (no_row table.Targets i b)
  sound table.InBetweens i b = drawn-none _ _ (no_row table.InBetweens i b)
  sound table.Skins i b = (drawn-none true _ (no_row table.Skins i b)).1
  sound table.Skeletons i b = drawn-none _ _ (no_row table.Skeletons i b)

  -- a child list is as long as its count
  list_length : (i : ℕ) → i < l.header.graph.nodes.count → child_count l.words l.header.graph.nodes i ≡ length (node_of l (node_row l.words l.header.graph.nodes i)).children
  list_length i b = sym (part_length l.words (node_row l.words l.header.graph.nodes i).children (children-fit (sizes_of l) (node_row l.words l.header.graph.nodes i) (sound table.Nodes i b).0))

  entries-are : sum_below l.header.graph.nodes.count (child_count l.words l.header.graph.nodes) ≡ child_entries (scene_of l)
  unfolding scene_of
  entries-are =
      sum_alike _ _ _ list_length
      ∙ sym (sum-tabulated l.header.graph.nodes.count (λ i. node_of l (node_row l.words l.header.graph.nodes i)) (λ (n : Node). length n.children))

  few-entries : sum_below l.header.graph.nodes.count (child_count l.words l.header.graph.nodes) ≤ 8192
  unfolding children_number
  few-entries = leb-true _ 8192 (drawn-none true _ (lower-none _ _ others).0).1

  pub checked : Checked l
  unfolding scene_of
  checked = record {
    tables = λ k. (in_words k).0;
    records = sound;
    roots = (drawn-none _ _ no-roots).0;
    root-count = part_length l.words l.header.graph.roots (drawn-none _ _ no-roots).0;
    few-nodes = subst (λ (n : ℕ). n ≤ 1024) (sym (length-tabulate _ _)) (leb-true _ 1024 (in_words table.Nodes).1);
    few-roots = omega (arith, length-take (l.header.graph.roots.count * 1) (drop l.header.graph.roots.at l.words), leb-true l.header.graph.roots.count 1024 (drawn-none _ _ no-roots).1);
    few-channels = subst (λ (n : ℕ). n ≤ 1024) (sym (length-tabulate _ _)) (leb-true _ 1024 (in_words table.Channels).1);
    few-children = omega (arith, entries-are, few-entries);
    children = entries-are;
  }
