use Prim.Native.Nat.{◌-◌}
use Rattle.animation.proofs.Halving.{Bracket}
use Rattle.animation.proofs.locating.locate.Given as goal

abbrev pub invariant-loop-lo : goal.invariant-loop-lo
invariant-loop-lo l = Bracket l.keys l.t l.lo l.hi

abbrev pub decreases-loop-lo : goal.decreases-loop-lo
decreases-loop-lo l = l.hi - l.lo
