use Prim.Native.Nat.{◌+◌, ◌*◌, ◌≤◌}
use Rattle.model.specs.Lists.{part}
use Rattle.transform.specs.Blocks.{Packed}
use Rattle.transform.proofs.packed.gather.Given as goal

abbrev pub invariant-loop-i : goal.invariant-loop-i
invariant-loop-i l = (l.i ≤ 16) × Packed l.i (λ j. part l.s ((l.k + j) * l.w) 3) l.d
