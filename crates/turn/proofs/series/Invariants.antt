use mathlib.Core.Path.{◌≡◌}
use Prim.Native.Nat.{◌≤◌}
use Rattle.float.specs.F64.{◌⊗◌}
use Rattle.turn.specs.Weight.{steps, series}
use Rattle.turn.proofs.series.Given as goal

abbrev pub invariant-loop-i : goal.invariant-loop-i
invariant-loop-i l = (l.i ≤ 40) × (l.v ⊗ steps l.i l.vv l.d l.g ≡ series l.v l.c)
