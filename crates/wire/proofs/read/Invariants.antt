use Rattle.model.proofs.Filling.{Filled}
use Rattle.wire.specs.Bytes.{read_as}
use Rattle.wire.proofs.read.Given as goal

abbrev pub invariant-loop-i : goal.invariant-loop-i
invariant-loop-i g l = Filled (read_as g.T.Entry.of_word l.bytes) l.initial.out l.n l.out l.i
