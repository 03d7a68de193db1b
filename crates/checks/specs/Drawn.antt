-- What the tables of a lent scene draw: 1, 2, or 0 for neither, over all that is lent, used or not (docs/TABLES.md;
-- scope, "Numbers when a piece is turned down"). The lowest number that applies is drawn. Definitions only.
use Rattle.std.specs.Prelude.{◌≡◌, Bool, true, List, ℕ, zero, suc, ◌+◌, min, ltb, leb, Float, length}
use Rattle.borrowed.specs.Slices.{SharedWords, SharedFloats}
use Rattle.model.specs.Lists.{pick}
use Rattle.model.specs.Limits.{node_limit, root_limit, channel_limit, child_entry_limit}
use Rattle.model.specs.Refusals.{number, out_of_table, over_limit}
use Rattle.tracks.specs.declared.Part.{Part}
use Rattle.tracks.specs.Tracks as tracks
use Rattle.tables.specs.declared.Header.{Header}
use Rattle.tables.specs.Records.{node_words, channel_words, mesh_words, primitive_words, target_words, in_between_words}
use Rattle.tables.specs.Records.{skin_words, skeleton_words, node_row, channel_row, mesh_row, primitive_row, target_row}
use Rattle.tables.specs.Records.{in_between_row, skin_row, skeleton_row}
use Rattle.tables.specs.Tags.{track_for}
use Rattle.tables.specs.Decoded.{Lent}
use Rattle.row_checks.specs.declared.Sizes.{Sizes}
use Rattle.row_checks.specs.Places.{fits_in, node_fits, mesh_fits, primitive_fits, target_fits, in_between_fits, skeleton_fits}
use Rattle.row_checks.specs.Bounds.{node_within, tags_known, mesh_within, primitive_within, target_within, in_between_within}
use Rattle.row_checks.specs.Bounds.{skin_within, skeleton_within}
use Rattle.checks.specs.declared.Table.{Table}
use Rattle.checks.specs.declared.Table.TheVariants as table

-- ---- numbers

-- 1 where something leaves its table, otherwise 2 where it is not within its limits
unfoldable pub drawn : Bool → Bool → ℕ
drawn fits within = pick fits (pick within 0 (number over_limit)) (number out_of_table)

-- the lower of two, 0 being none
unfoldable pub lower_of : ℕ → ℕ → ℕ
lower_of zero b = b
lower_of (suc a) zero = suc a
lower_of (suc a) (suc b) = pick (ltb (suc a) (suc b)) (suc a) (suc b)

-- the lowest of the first n, and the sum of the first n
unfoldable pub lowest_below : ℕ → (ℕ → ℕ) → ℕ
lowest_below zero f = 0
lowest_below (suc n) f = lower_of (lowest_below n f) (f n)

unfoldable pub sum_below : ℕ → (ℕ → ℕ) → ℕ
sum_below zero f = 0
sum_below (suc n) f = sum_below n f + f n

-- ---- a record: the words, what its parts may lie in, the table, which record

unfoldable pub node_number : List ℕ → Sizes → Part → ℕ → ℕ
node_number words s t i = drawn (node_fits s (node_row words t i)) (node_within (node_row words t i))

unfoldable pub channel_number : List ℕ → List Float → Part → ℕ → ℕ
channel_number words floats t i =
    lower_of (tracks.table_number floats (track_for (channel_row words t i)))
    (drawn true (tags_known (channel_row words t i)))

unfoldable pub mesh_number : List ℕ → Sizes → Part → ℕ → ℕ
mesh_number words s t i = drawn (mesh_fits s (mesh_row words t i)) (mesh_within (mesh_row words t i))

unfoldable pub primitive_number : List ℕ → Sizes → Part → ℕ → ℕ
primitive_number words s t i =
    drawn (primitive_fits s (primitive_row words t i)) (primitive_within (primitive_row words t i))

unfoldable pub target_number : List ℕ → Sizes → Part → ℕ → ℕ
target_number words s t i = drawn (target_fits s (target_row words t i)) (target_within (target_row words t i))

unfoldable pub in_between_number : List ℕ → Sizes → Part → ℕ → ℕ
in_between_number words s t i =
    drawn (in_between_fits s (in_between_row words t i)) (in_between_within (in_between_row words t i))

-- ids are no offsets, so a skin leaves no table
unfoldable pub skin_number : List ℕ → Part → ℕ → ℕ
skin_number words t i = drawn true (skin_within (skin_row words t i))

unfoldable pub skeleton_number : List ℕ → Sizes → Part → ℕ → ℕ
skeleton_number words s t i = drawn (skeleton_fits s (skeleton_row words t i)) (skeleton_within (skeleton_row words t i))

abbrev pub row_number : List ℕ → List Float → Sizes → Part → Table → ℕ → ℕ
row_number words floats s t table.Nodes i = node_number words s t i
row_number words floats s t table.Channels i = channel_number words floats t i
row_number words floats s t table.Meshes i = mesh_number words s t i
row_number words floats s t table.Primitives i = primitive_number words s t i
row_number words floats s t table.Targets i = target_number words s t i
row_number words floats s t table.InBetweens i = in_between_number words s t i
row_number words floats s t table.Skins i = skin_number words t i
row_number words floats s t table.Skeletons i = skeleton_number words s t i

-- ---- floats by their count

-- a number that is told of any floats that are as many as the sizes say
abbrev pub ByCount : Sizes → ℕ → (List Float → ℕ) → Type 0
ByCount s r f = (floats : List Float) → length floats ≡ s.floats → r ≡ f floats

-- ---- a table

abbrev pub table_of : Header → Table → Part
table_of h table.Nodes = h.graph.nodes
table_of h table.Channels = h.channels
table_of h table.Meshes = h.meshes.meshes
table_of h table.Primitives = h.meshes.primitives
table_of h table.Targets = h.meshes.targets
table_of h table.InBetweens = h.meshes.in_betweens
table_of h table.Skins = h.skins.skins
table_of h table.Skeletons = h.skins.skeletons

abbrev pub record_words : Table → ℕ
record_words table.Nodes = node_words
record_words table.Channels = channel_words
record_words table.Meshes = mesh_words
record_words table.Primitives = primitive_words
record_words table.Targets = target_words
record_words table.InBetweens = in_between_words
record_words table.Skins = skin_words
record_words table.Skeletons = skeleton_words

-- one above the limit of child entries, which tells that it is passed
abbrev pub entry_cap : ℕ
entry_cap = child_entry_limit + 1

-- the paper limits nodes and channels
abbrev pub count_within : Table → ℕ → Bool
count_within table.Nodes n = leb n node_limit
count_within table.Channels n = leb n channel_limit
count_within table.Meshes n = true
count_within table.Primitives n = true
count_within table.Targets n = true
count_within table.InBetweens n = true
count_within table.Skins n = true
count_within table.Skeletons n = true

abbrev pub table_number : ℕ → Part → Table → ℕ
table_number len t k = drawn (fits_in t (record_words k) len) (count_within k t.count)

-- with all its records
unfoldable pub whole_number : List ℕ → List Float → Sizes → Header → Table → ℕ
whole_number words floats s h k =
    lower_of (table_number (length words) (table_of h k) k)
    (lowest_below (table_of h k).count (row_number words floats s (table_of h k) k))

-- ---- roots and child entries

abbrev pub roots_number : ℕ → Part → ℕ
roots_number len roots = drawn (fits_in roots 1 len) (leb roots.count root_limit)

abbrev pub child_count : List ℕ → Part → ℕ → ℕ
child_count words nodes i = (node_row words nodes i).children.count

-- the child entries of all nodes, an entry counted as often as it is listed, as far as one above the limit
abbrev pub capped_entries : List ℕ → Part → ℕ
capped_entries words nodes = min (sum_below nodes.count (child_count words nodes)) entry_cap

-- over size where there are more than 8,192
abbrev pub entries_number : ℕ → ℕ
entries_number entries = drawn true (leb entries child_entry_limit)

unfoldable pub children_number : List ℕ → Part → ℕ
children_number words nodes = entries_number (sum_below nodes.count (child_count words nodes))

-- ---- all that is lent

unfoldable pub listed_number : List ℕ → List Float → Sizes → Header → ℕ
listed_number words floats s h =
    let n = whole_number words floats s h in
    lower_of (n table.Channels) (lower_of (n table.Meshes) (lower_of (n table.Primitives) (lower_of (n table.Targets)
    (lower_of (n table.InBetweens) (lower_of (n table.Skins) (n table.Skeletons))))))

-- the lengths of the slices, and of the tables whose records others list
abbrev pub sizes_for : ℕ → ℕ → ℕ → ℕ → Header → Sizes
sizes_for words floats node_weights mesh_weights h = record {
  words = words;
  floats = floats;
  node_weights = node_weights;
  mesh_weights = mesh_weights;
  primitives = h.meshes.primitives.count;
  targets = h.meshes.targets.count;
  in_betweens = h.meshes.in_betweens.count;
}

abbrev pub sizes_of : Lent → Sizes
sizes_of l =
    sizes_for (length l.words) (length l.floats) (length l.node_weights) (length l.mesh_weights) l.header

abbrev pub lent_as : List ℕ → List Float → List Float → List Float → Header → Lent
lent_as words floats node_weights mesh_weights h =
    record { words = words; floats = floats; node_weights = node_weights; mesh_weights = mesh_weights; header = h }

-- the same of the slices that a call borrows
abbrev pub scene_lent : SharedWords → SharedFloats → SharedFloats → SharedFloats → Header → Lent
scene_lent words floats node_weights mesh_weights h =
    lent_as words.entry.now floats.entry.now node_weights.entry.now mesh_weights.entry.now h

unfoldable pub tables_number : Lent → ℕ
tables_number l =
    lower_of (whole_number l.words l.floats (sizes_of l) l.header table.Nodes)
    (lower_of (children_number l.words l.header.graph.nodes)
    (lower_of (roots_number (length l.words) l.header.graph.roots)
    (listed_number l.words l.floats (sizes_of l) l.header)))
