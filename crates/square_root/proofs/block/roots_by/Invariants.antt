use Rattle.square_root.proofs.Lanes.{Taken}
use Rattle.square_root.proofs.block.roots_by.Given as goal

abbrev pub invariant-loop-i : goal.invariant-loop-i
invariant-loop-i l = Taken l.a l.out l.i
