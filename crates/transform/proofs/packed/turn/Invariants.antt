use mathlib.Core.Path.{◌≡◌}
use Prim.Native.Nat.{◌*◌, ◌≤◌}
use lib.ListN.{drop}
use Rattle.model.specs.Lists.{row}
use Rattle.model.specs.Matrix.{turned}
use Rattle.scene.specs.Values.{mat3}
use Rattle.transform.proofs.Packing.{Measured}
use Rattle.transform.proofs.packed.turn.Given as goal

-- the vectors that are not turned yet are as lent
abbrev pub invariant-loop-i : goal.invariant-loop-i
invariant-loop-i l = (l.i ≤ 16) × (drop (l.i * 3) l.d ≡ drop (l.i * 3) l.initial.d) × Measured l.i (λ j. turned (mat3 l.l) (row 3 l.initial.d j)) l.d l.out
