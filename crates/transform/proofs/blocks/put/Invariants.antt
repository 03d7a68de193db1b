use mathlib.Core.Path.{◌≡◌}
use Prim.Native.Nat.{◌≤◌}
use lib.ListN.{length}
use Rattle.model.specs.Lists.{row}
use Rattle.transform.specs.Blocks.{begun, rows_from}
use Rattle.transform.proofs.blocks.put.Given as goal

abbrev pub invariant-loop-i : goal.invariant-loop-i
invariant-loop-i l = (l.i ≤ 16) × (length l.s ≡ length l.initial.s) × (l.s ≡ rows_from l.w (λ j. begun (row 3 l.d j)) l.k l.initial.s l.i)
