use mathlib.Core.Path.{ap}
use mathlib.Core.Bool.{Bool, ◌&&◌}
use lib.Ieee.{lt}
use Rattle.float.specs.F32.{zero32}
use Rattle.vertex_rows.proofs.influences.counts.Goals as goal

pub returns : goal.returns
returns c = ap (λ (b : Bool). b && lt zero32 c.args.w) c.is_finite.ensures
