use Rattle.spelling.proofs.Pushing.{Behind}
use Rattle.spelling.proofs.U32Item.behind.Given as goal

abbrev pub invariant-loop-n : goal.invariant-loop-n
invariant-loop-n l = Behind l.items l.at l.k l.n-index
