use mathlib.Core.Path.{◌≡◌}
use Prim.Native.Nat.{◌*◌, ◌≤◌}
use lib.Ieee.{nan}
use lib.ListN.{length, get_or, drop}
use Rattle.model.specs.Lists.{row}
use Rattle.model.specs.Vector.{over}
use Rattle.transform.specs.Blocks.{Packed}
use Rattle.transform.proofs.packed.units.Given as goal

-- the vectors that are not divided yet are as lent
abbrev pub invariant-loop-i : goal.invariant-loop-i
invariant-loop-i l = (l.i ≤ 16) × (length l.n ≡ 16) × (drop (l.i * 3) l.d ≡ drop (l.i * 3) l.initial.d) × Packed l.i (λ j. over (row 3 l.initial.d j) (get_or l.n j nan)) l.d
