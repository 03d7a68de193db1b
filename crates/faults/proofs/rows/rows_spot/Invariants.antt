use mathlib.Core.Path.{◌≡◌}
use mathlib.Core.List.{List}
use Prim.Native.Nat.{ℕ, suc, ◌≤◌, min}
use Rattle.refusals.specs.Drawn.{number_of}
use Rattle.tracks.specs.declared.Part.{Part}
use Rattle.row_checks.specs.declared.Sizes.{Sizes}
use Rattle.checks.specs.declared.Table.{Table}
use Rattle.checks.specs.Drawn.{entry_cap, sum_below}
use Rattle.faults.specs.declared.Fault.{Fault}
use Rattle.faults.specs.Faults.{entry_count, row_spots, spots_below, first_with, spot_told}
use Rattle.faults.proofs.rows.rows_spot.Given as goal

-- the spots of record i, by the child entries of the records up to and with it
abbrev pub spots_at : List ℕ → Sizes → Part → Table → ℕ → List Fault
spots_at words s t k i = row_spots words s t k (sum_below (suc i) (entry_count words t k)) i

abbrev pub invariant-loop-i : goal.invariant-loop-i
invariant-loop-i l =
    (l.count ≡ l.t.count) × (l.i ≤ l.count) × (l.entries ≡ min (sum_below l.i (entry_count l.words l.t l.k)) entry_cap)
    × (spot_told l.found ≡ first_with (number_of l.n) (spots_below l.i (spots_at l.words l.s l.t l.k)))
