-- How a node's place stands in a lent slot: 0 where it is not placed, 1 for a root, p + 3 under node p; 2 is kept free.
-- Definitions only.
use Rattle.std.specs.Prelude.{List, map, ℕ, ◌+◌}
use Rattle.model.specs.Placing.{Place, unplaced, root, below}

abbrev pub code_of : Place → ℕ
code_of unplaced = 0
code_of root = 1
code_of (below p) = p + 3

abbrev pub codes_of : List Place → List ℕ
codes_of ps = map code_of ps
