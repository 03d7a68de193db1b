use Rattle.wire.proofs.Writing.{FilledBytes}
use Rattle.wire.proofs.write.Given as goal

abbrev pub invariant-loop-i : goal.invariant-loop-i
invariant-loop-i g l = FilledBytes g.T.Entry.word_of l.entries l.initial.bytes l.n l.bytes l.i
