-- The tables of a scene that draws no number lie in the words. Assumes nothing.
use mathlib.Core.Path.{◌≡◌}
use mathlib.Core.List.{List}
use Prim.Native.Nat.{ℕ}
use Rattle.tables.specs.declared.Header.{Header}
use Rattle.checks.specs.declared.Table.{Table}
use Rattle.checks.specs.Drawn.{table_of, tables_number}
use Rattle.checks.proofs.Clearing.{checked}
use Rattle.lent_bytes.specs.Bytes.{lent_in}
use Rattle.byte_checks.specs.Bytes.{TableThere}
use Rattle.byte_checks.specs.There.{lies_there}

pub all_there : (words floats own mesh : List ℕ) (h : Header) → tables_number (lent_in words floats own mesh h) ≡ 0
    → (k : Table) → TableThere words (table_of h k) k
all_there words floats own mesh h z k =
    lies_there words (table_of h k) k ((checked (lent_in words floats own mesh h) z).tables k)
