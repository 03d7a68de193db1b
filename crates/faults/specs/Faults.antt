-- Where a lent scene breaks the rules of its tables: of the spots that draw the number of its tables, the first, by
-- table, record and word (docs/TABLES.md). Definitions only.
use Rattle.std.specs.Prelude.{Option, Some, None, ◌≡◌, false, List, [], ◌∷◌, ◌++◌, map, ℕ, zero, suc, eqb, length}
use Rattle.model.specs.Lists.{pick, any_of}
use Rattle.tracks.specs.declared.Part.{Part}
use Rattle.tables.specs.declared.Header.{Header}
use Rattle.tables.specs.Decoded.{Lent}
use Rattle.row_checks.specs.declared.Sizes.{Sizes}
use Rattle.checks.specs.declared.Table.{Table}
use Rattle.checks.specs.declared.Table.TheVariants as table
use Rattle.checks.specs.Drawn.{table_of, table_number, roots_number, child_count, sum_below, sizes_of, tables_number}
use Rattle.refusals.specs.Drawn.{number_of}
use Rattle.word_checks.specs.Words.{Asked, row_asked, lowest_of}
use Rattle.faults.specs.declared.Fault.{Fault}
use Rattle.faults.specs.declared.Spot.{Spot}

-- ---- spots

-- a table, a record of it, a word of the record, and the number that the word draws; word 16 is the table itself
abbrev pub spot : ℕ → ℕ → ℕ → ℕ → Fault
spot table i word number = record { number = number; table = table; «record» = i; word = word }

-- the tables in the header's order; the roots are table 1
abbrev pub table_index : Table → ℕ
table_index table.Nodes = 0
table_index table.Channels = 2
table_index table.Meshes = 3
table_index table.Primitives = 4
table_index table.Targets = 5
table_index table.InBetweens = 6
table_index table.Skins = 7
table_index table.Skeletons = 8

-- the child entries that record i of a table lists: nodes alone list any
abbrev pub entry_count : List ℕ → Part → Table → ℕ → ℕ
entry_count words t table.Nodes i = child_count words t i
entry_count words t table.Channels i = 0
entry_count words t table.Meshes i = 0
entry_count words t table.Primitives i = 0
entry_count words t table.Targets i = 0
entry_count words t table.InBetweens i = 0
entry_count words t table.Skins i = 0
entry_count words t table.Skeletons i = 0

-- the words of a record
unfoldable pub word_spots : ℕ → ℕ → List Asked → List Fault
word_spots table i asked = map (λ (a : Asked). spot table i a.word a.number) asked

-- of record i, by the child entries up to and with it
abbrev pub row_spots : List ℕ → Sizes → Part → Table → ℕ → ℕ → List Fault
row_spots words s t k entries i = word_spots (table_index k) i (row_asked words s t k i entries)

-- of the first n records, and of all
unfoldable pub spots_below : ℕ → (ℕ → List Fault) → List Fault
spots_below zero f = []
spots_below (suc n) f = spots_below n f ++ f n

abbrev pub rows_spots : List ℕ → Sizes → Part → Table → List Fault
rows_spots words s t k =
    spots_below t.count (λ (i : ℕ). row_spots words s t k (sum_below (suc i) (entry_count words t k)) i)

-- a table, then its records
unfoldable pub table_spots : List ℕ → Sizes → Header → Table → List Fault
table_spots words s h k =
    spot (table_index k) 0 16 (table_number (length words) (table_of h k) k) ∷ rows_spots words s (table_of h k) k

-- of the roots, which are ids, nothing more is asked
unfoldable pub roots_spots : ℕ → Part → List Fault
roots_spots len roots = spot 1 0 16 (roots_number len roots) ∷ []

unfoldable pub mesh_spots : List ℕ → Sizes → Header → List Fault
mesh_spots words s h =
    table_spots words s h table.Meshes
    ++ (table_spots words s h table.Primitives
    ++ (table_spots words s h table.Targets
    ++ table_spots words s h table.InBetweens))

unfoldable pub skin_spots : List ℕ → Sizes → Header → List Fault
skin_spots words s h = table_spots words s h table.Skins ++ table_spots words s h table.Skeletons

-- of all tables, in the header's order
unfoldable pub spots_for : List ℕ → Sizes → Header → List Fault
spots_for words s h =
    table_spots words s h table.Nodes
    ++ (roots_spots (length words) h.graph.roots
    ++ (table_spots words s h table.Channels
    ++ (mesh_spots words s h
    ++ skin_spots words s h)))

abbrev pub spots : Lent → List Fault
spots l = spots_for l.words (sizes_of l) l.header

-- the lowest number of some of them
abbrev pub lowest_spot : List Fault → ℕ
lowest_spot list = lowest_of (λ (f : Fault). f.number) list

-- ---- the first

abbrev pub no_fault : Fault
no_fault = spot 0 0 0 0

-- the first of number n, or zeros
unfoldable pub first_with : ℕ → List Fault → Fault
first_with n [] = no_fault
first_with n (f ∷ rest) = pick (eqb f.number n) f (first_with n rest)

-- f is the first of number n: none before it has that number
pub record First (n : ℕ) (list : List Fault) (f : Fault) : Type 0 where
  pub before : List Fault
  pub after : List Fault
  pub split : list ≡ before ++ (f ∷ after)
  pub number : f.number ≡ n
  pub none_before : any_of (λ (g : Fault). eqb g.number n) before ≡ false

-- zeros where the tables draw nothing, otherwise the first spot of the number that they draw
unfoldable pub fault_of : Lent → Fault
fault_of l = pick (eqb (tables_number l) 0) no_fault (first_with (tables_number l) (spots l))

-- what the code's spot tells of a fault
abbrev pub spot_told : Option Spot → Fault
spot_told (Some s) = spot s.table s.«record» s.word (number_of s.refusal)
spot_told None = no_fault
