use mathlib.Core.Path.{◌≡◌}
use Prim.Native.Nat.{◌≤◌}
use lib.ListN.{length}
use Rattle.model.specs.Lists.{row}
use Rattle.transform.specs.Blocks.{unit_over, rows_from}
use Rattle.transform.proofs.blocks.put_each.Given as goal

abbrev pub invariant-loop-i : goal.invariant-loop-i
invariant-loop-i l = (l.i ≤ 16) × (length l.s ≡ length l.initial.s) × (length l.n ≡ 16) × (l.s ≡ rows_from l.w (λ j. unit_over (row 3 l.d j)) l.k l.initial.s l.i)
