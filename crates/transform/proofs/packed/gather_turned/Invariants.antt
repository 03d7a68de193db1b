use Prim.Native.Nat.{◌+◌, ◌*◌, ◌≤◌}
use Rattle.model.specs.Lists.{part}
use Rattle.model.specs.Matrix.{turned}
use Rattle.scene.specs.Values.{mat3}
use Rattle.transform.proofs.Packing.{Measured}
use Rattle.transform.proofs.packed.gather_turned.Given as goal

abbrev pub invariant-loop-i : goal.invariant-loop-i
invariant-loop-i l = (l.i ≤ 16) × Measured l.i (λ j. turned (mat3 l.l) (part l.s ((l.k + j) * l.w) 3)) l.d l.out
