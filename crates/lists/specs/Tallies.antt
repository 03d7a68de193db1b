-- Counts of answers. Definitions only.
use Rattle.std.specs.Prelude.{Bool, true, false, ◌&&◌, ◌+◌, ◌%◌, ltb, eqb}
use Rattle.lists.specs.declared.counting.Tally.{Tally}

-- one answer more, which is the same or differs; a count starts anew at 2^31
abbrev pub counted : Tally → Bool → Tally
counted t true = record { seen = t.seen % 0x8000_0000 + 1; differ = t.differ % 0x8000_0000 }
counted t false = record { seen = t.seen % 0x8000_0000 + 1; differ = t.differ % 0x8000_0000 + 1 }

-- answers were seen, and none of them differs
abbrev pub all_same : Tally → Bool
all_same t = ltb 0 t.seen && eqb t.differ 0
