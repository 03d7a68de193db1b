use native.Mathlib.Omega.{arith}
use Prim.Native.Nat.{◌+◌}
use mathlib.Core.Path.{ap}
use Prim.Native.Nat.{ℕ}
use Rattle.scene_marks.proofs.the_one.Goals as goal

pub returns : goal.returns
returns c = (ap (λ (n : ℕ). c.args.a + n) c.chosen.ensures.0, omega arith)
