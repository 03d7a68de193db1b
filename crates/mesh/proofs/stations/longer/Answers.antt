use mathlib.Core.Path.{ap}
use mathlib.Core.List.{List}
use Prim.Native.Nat.{◌/◌}
use native.Mathlib.Omega.{arith}
use lib.Ieee.{Float}
use lib.ListN.{length}
use Rattle.mesh.proofs.stations.longer.Goals as goal

pub returns-then-n-rows : goal.returns-then-n-rows
returns-then-n-rows c = omega (arith, ap (λ (l : List Float). length l / 3) c.deltas_in.ensures)

pub returns-else-n-rows : goal.returns-else-n-rows
returns-else-n-rows c = omega (arith, ap (λ (l : List Float). length l / 3) c.deltas_in.ensures)
