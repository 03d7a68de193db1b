use mathlib.Core.List.{map}
use Rattle.float.specs.Narrow.{narrow_of}
use Rattle.model.proofs.Filling.{Filled}
use Rattle.entries.proofs.leaves.mesh3d_narrow_all.Given as goal

abbrev pub invariant-loop-i : goal.invariant-loop-i
invariant-loop-i l = Filled (map narrow_of l.xs) l.initial.out l.n l.out l.i
