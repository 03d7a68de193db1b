-- The line and the column of the place behind some bytes of a text, both counted from 1. Definitions only.
use Rattle.std.specs.Prelude.{List, ℕ, ◌+◌, eqb}
use Rattle.model.specs.Lists.{pick, foldl}

-- behind one byte more
abbrev pub line_on : ℕ → ℕ → ℕ
line_on line b = pick (eqb b 10) (line + 1) line

abbrev pub column_on : ℕ → ℕ → ℕ
column_on column b = pick (eqb b 10) 1 (column + 1)

-- one more than there are line ends
abbrev pub line_behind : List ℕ → ℕ
line_behind before = foldl line_on 1 before

-- one more than there are bytes behind the last line end
abbrev pub column_behind : List ℕ → ℕ
column_behind before = foldl column_on 1 before
