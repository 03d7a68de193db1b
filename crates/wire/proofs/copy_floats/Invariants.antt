use Rattle.model.proofs.Filling.{Filled}
use Rattle.wire.proofs.copy_floats.Given as goal

abbrev pub invariant-loop-i : goal.invariant-loop-i
invariant-loop-i l = Filled l.part l.initial.out l.n l.out l.i
