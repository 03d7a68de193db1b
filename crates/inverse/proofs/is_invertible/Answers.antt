use mathlib.Core.Path.{ap}
use mathlib.Core.Bool.{Bool, not, ◌&&◌}
use lib.Ieee.{eq, ne}
use Rattle.float.specs.F32.{zero32}
use Rattle.inverse.proofs.is_invertible.Goals as goal

pub returns : goal.returns
unfolding ne
returns c = ap (λ (b : Bool). b && not (eq c.args.det zero32)) c.is_finite.ensures
