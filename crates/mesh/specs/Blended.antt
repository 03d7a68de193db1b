-- The deltas of an attribute at a weight between two stations, read from their slots as they lie. Definitions only.
use Rattle.std.specs.Prelude.{List, ℕ, ◌/◌, Float, length}
use Rattle.float.specs.F32.{◌⊖◌, ◌⊘◌}
use Rattle.model.specs.Lists.{pick, tabulate}
use Rattle.model.specs.Vector.{Vector}
use Rattle.tables.specs.declared.Slot.{Slot}
use Rattle.tables.specs.Tags.{is_marked}
use Rattle.deltas.specs.Deltas.{deltas_in}
use Rattle.deltas.specs.Mixed.{mixed_in}

-- how many: as the target's own slot has, else n
abbrev pub count_in : List Float → Slot → ℕ → ℕ
count_in floats own n = pick (is_marked own.mark) (length (deltas_in floats own) / 3) n

-- the part of the way from a low weight to a high one
abbrev pub part_of_way : Float → Float → Float → Float
part_of_way w low high = (w ⊖ low) ⊘ (high ⊖ low)

unfoldable pub blended_in : List Float → Slot → ℕ → Float → Slot → Slot → List Vector
blended_in floats own n t low high =
    tabulate (count_in floats own n) (mixed_in t (deltas_in floats low) (deltas_in floats high))
