use mathlib.Core.List.{zip_with}
use Rattle.turn.specs.Weight.{weight}
use Rattle.model.proofs.Filling.{Filled}
use Rattle.entries.proofs.leaves.mesh3d_turn_weight_all.Given as goal

abbrev pub invariant-loop-i : goal.invariant-loop-i
invariant-loop-i l = Filled (zip_with weight l.vs l.cs) l.initial.out l.n l.out l.i
