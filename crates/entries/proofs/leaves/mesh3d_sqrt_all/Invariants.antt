use mathlib.Core.List.{map}
use lib.Ieee.{binary32}
use Rattle.float.specs.Sqrt.{sqrt_of}
use Rattle.model.proofs.Filling.{Filled}
use Rattle.entries.proofs.leaves.mesh3d_sqrt_all.Given as goal

abbrev pub invariant-loop-i : goal.invariant-loop-i
invariant-loop-i l = Filled (map (sqrt_of binary32) l.xs) l.initial.out l.n l.out l.i
