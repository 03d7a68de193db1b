-- What tables draw is 0, 1 or 2. Assumes nothing.
use mathlib.Core.Bool.{Bool, true, false, ◌&&◌}
use mathlib.Core.List.{List}
use Prim.Native.Nat.{ℕ, zero, suc, ◌≤◌}
use native.Mathlib.Omega.{arith}
use lib.Dec.{ltb}
use lib.Ieee.{Float}
use lib.ListN.{length}
use Rattle.model.specs.Lists.{pick}
use Rattle.model.specs.Refusals.{track_over_limit}
use Rattle.tracks.specs.declared.Track.{Track}
use Rattle.tracks.specs.Tracks as tracks
use Rattle.tables.specs.Decoded.{Lent}
use Rattle.checks.specs.declared.Table.{Table}
use Rattle.checks.specs.declared.Table.TheVariants as table
use Rattle.checks.specs.Drawn.{drawn, lower_of, lowest_below, node_number, channel_number, mesh_number, primitive_number, target_number, in_between_number, skin_number, skeleton_number, row_number, table_of, whole_number, children_number, listed_number, sizes_of, tables_number}

chosen : (b : Bool) (x y : ℕ) → x ≤ 2 → y ≤ 2 → pick b x y ≤ 2
chosen true x y h k = h
chosen false x y h k = k

lower : (a b : ℕ) → a ≤ 2 → b ≤ 2 → lower_of a b ≤ 2
unfolding lower_of
lower zero b h k = k
lower (suc a) zero h k = h
lower (suc a) (suc b) h k = chosen (ltb (suc a) (suc b)) (suc a) (suc b) h k

of-drawn : (f w : Bool) → drawn f w ≤ 2
unfolding drawn
of-drawn true true = omega arith
of-drawn true false = omega arith
of-drawn false w = omega arith

lowest : (n : ℕ) (f : ℕ → ℕ) → ((i : ℕ) → f i ≤ 2) → lowest_below n f ≤ 2
unfolding lowest_below
lowest zero f h = omega arith
lowest (suc n) f h = lower (lowest_below n f) (f n) (lowest n f h) (h n)

of-track : (floats : List Float) (t : Track) → tracks.table_number floats t ≤ 2
unfolding tracks.table_number
of-track floats t =
    chosen (tracks.keys_fit (length floats) t && tracks.values_fit (length floats) t) _ 1 (chosen (track_over_limit (tracks.track_in floats t)) 2 0 (omega arith) (omega arith)) (omega arith)

module _ (l : Lent) where
  of_row : (k : Table) (i : ℕ) → row_number l.words l.floats (sizes_of l) (table_of l.header k) k i ≤ 2
  unfolding node_number channel_number mesh_number primitive_number target_number in_between_number skin_number skeleton_number
  of_row table.Nodes i = of-drawn _ _
  of_row table.Channels i = lower _ _ (of-track _ _) (of-drawn _ _)
  of_row table.Meshes i = of-drawn _ _
  of_row table.Primitives i = of-drawn _ _
  of_row table.Targets i = of-drawn _ _
  of_row table.InBetweens i = of-drawn _ _
  of_row table.Skins i = of-drawn _ _
  of_row table.Skeletons i = of-drawn _ _

  of-table : (k : Table) → whole_number l.words l.floats (sizes_of l) l.header k ≤ 2
  unfolding whole_number
  of-table k = lower _ _ (of-drawn _ _) (lowest _ _ (of_row k))

  of-list : listed_number l.words l.floats (sizes_of l) l.header ≤ 2
  unfolding listed_number
  of-list =
      lower _ _ (of-table table.Channels) (lower _ _ (of-table table.Meshes) (lower _ _ (of-table table.Primitives) (lower _ _ (of-table table.Targets)
      (lower _ _ (of-table table.InBetweens) (lower _ _ (of-table table.Skins) (of-table table.Skeletons))))))

  pub tables-at-most-2 : tables_number l ≤ 2
  unfolding tables_number children_number
  tables-at-most-2 = lower _ _ (of-table table.Nodes) (lower _ _ (of-drawn _ _) (lower _ _ (of-drawn _ _) of-list))
