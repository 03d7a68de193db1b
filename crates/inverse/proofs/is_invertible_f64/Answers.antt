use mathlib.Core.Path.{ap}
use mathlib.Core.Bool.{Bool, not, ◌&&◌}
use lib.Ieee.{eq, ne, of_bits}
use Rattle.float.specs.F32.{zero32}
use Rattle.inverse.proofs.is_invertible_f64.Goals as goal

pub returns : goal.returns
unfolding ne of_bits
returns c = ap (λ (b : Bool). b && not (eq c.args.det zero32)) c.is_finite_f64.ensures
