-- Tables that lie in the words, of sound records and within the limits, draw neither 1 nor 2. Assumes nothing.
use mathlib.Core.Path.{◌≡◌, refl}
use mathlib.Core.Bool.{Bool, true}
use Prim.Native.Nat.{ℕ, zero, suc, ◌≤◌, ◌<◌}
use native.Mathlib.Omega.{arith}
use borrow.Author.Tests.{le-leb}
use lib.ListN.{length}
use Rattle.model.specs.Limits.{node_limit, root_limit, channel_limit, child_entry_limit}
use Rattle.tables.specs.Decoded.{Lent}
use Rattle.row_checks.specs.Places.{fits_in}
use Rattle.checks.specs.declared.Table.{Table}
use Rattle.checks.specs.declared.Table.TheVariants as table
use Rattle.checks.specs.Drawn.{drawn, lower_of, lowest_below, sum_below, node_number, channel_number, mesh_number}
use Rattle.checks.specs.Drawn.{primitive_number, target_number, in_between_number, skin_number, skeleton_number, row_number}
use Rattle.checks.specs.Drawn.{table_of, record_words, count_within, whole_number, child_count, children_number}
use Rattle.checks.specs.Drawn.{listed_number, sizes_of, tables_number}
use Rattle.checks.specs.Checked.{Sound}

lower-zero : (a b : ℕ) → a ≡ 0 → b ≡ 0 → lower_of a b ≡ 0
unfolding lower_of
lower-zero a b e g = λ i. lower_of (e i) (g i)

drawn-zero : (f w : Bool) → f ≡ true → w ≡ true → drawn f w ≡ 0
unfolding drawn
drawn-zero f w e g = λ i. drawn (e i) (g i)

lowest-zero : (n : ℕ) (f : ℕ → ℕ) → ((i : ℕ) → i < n → f i ≡ 0) → lowest_below n f ≡ 0
unfolding lowest_below
lowest-zero zero f h = refl
lowest-zero (suc n) f h =
    lower-zero (lowest_below n f) (f n) (lowest-zero n f (λ i b. h i (omega arith))) (h n (omega arith))

-- what is asked of lent tables, table by table
pub record Clear (l : Lent) : Type 0 where
  pub tables : (k : Table) → fits_in (table_of l.header k) (record_words k) (length l.words) ≡ true
  pub records : (k : Table) (i : ℕ) → i < (table_of l.header k).count → Sound l k i
  pub roots : fits_in l.header.graph.roots 1 (length l.words) ≡ true
  pub few-nodes : l.header.graph.nodes.count ≤ node_limit
  pub few-roots : l.header.graph.roots.count ≤ root_limit
  pub few-channels : l.header.channels.count ≤ channel_limit
  pub few-children : sum_below l.header.graph.nodes.count (child_count l.words l.header.graph.nodes)
      ≤ child_entry_limit

module _ (l : Lent) (c : Clear l) where
  few : (k : Table) → count_within k (table_of l.header k).count ≡ true
  few table.Nodes = le-leb l.header.graph.nodes.count node_limit c.few-nodes
  few table.Channels = le-leb l.header.channels.count channel_limit c.few-channels
  few table.Meshes = refl
  few table.Primitives = refl
  few table.Targets = refl
  few table.InBetweens = refl
  few table.Skins = refl
  few table.Skeletons = refl

  row : (k : Table) (i : ℕ) → Sound l k i
      → row_number l.words l.floats (sizes_of l) (table_of l.header k) k i ≡ 0
  unfolding node_number channel_number mesh_number primitive_number target_number in_between_number skin_number skeleton_number
  row table.Nodes i s = drawn-zero _ _ s.0 s.1
  row table.Channels i s = lower-zero _ _ s.0 (drawn-zero true _ refl s.1)
  row table.Meshes i s = drawn-zero _ _ s.0 s.1
  row table.Primitives i s = drawn-zero _ _ s.0 s.1
  row table.Targets i s = drawn-zero _ _ s.0 s.1
  row table.InBetweens i s = drawn-zero _ _ s.0 s.1
  row table.Skins i s = drawn-zero true _ refl s
  row table.Skeletons i s = drawn-zero _ _ s.0 s.1

  whole : (k : Table) → whole_number l.words l.floats (sizes_of l) l.header k ≡ 0
  unfolding whole_number
  whole k =
      lower-zero _ _ (drawn-zero _ _ (c.tables k) (few k)) (lowest-zero _ _ (λ i b. row k i (c.records k i b)))

  pub clear-drawn : tables_number l ≡ 0
  unfolding tables_number listed_number children_number
  clear-drawn =
      let entries = sum_below l.header.graph.nodes.count (child_count l.words l.header.graph.nodes) in
      lower-zero _ _ (whole table.Nodes)
      (lower-zero _ _ (drawn-zero true _ refl (le-leb entries child_entry_limit c.few-children))
      (lower-zero _ _
      (drawn-zero _ _ c.roots (le-leb l.header.graph.roots.count root_limit c.few-roots))
      (lower-zero _ _ (whole table.Channels)
      (lower-zero _ _ (whole table.Meshes)
      (lower-zero _ _ (whole table.Primitives)
      (lower-zero _ _ (whole table.Targets)
      (lower-zero _ _ (whole table.InBetweens)
      (lower-zero _ _ (whole table.Skins) (whole table.Skeletons)))))))))
