use mathlib.Core.Path.{refl}
use native.Mathlib.Omega.{arith}
use Rattle.digits.proofs.StandingLaws.{begins}
use Rattle.digits.proofs.longs.long_at.Goals as goal

pub long_from-requires : goal.long_from-requires
long_from-requires c = begins (omega arith) refl (omega arith) (omega arith)
