use Rattle.model.proofs.Filling.{Filled}
use Rattle.lists.specs.Fields.{floats_of}
use Rattle.lists.proofs.fields.copy_floats.Given as goal

abbrev pub invariant-loop-i : goal.invariant-loop-i
invariant-loop-i l = Filled (floats_of l.bits) l.initial.out l.n l.out l.i
