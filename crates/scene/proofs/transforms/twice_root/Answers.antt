use mathlib.Core.Path.{ap}
use lib.Ieee.{Float}
use Rattle.float.specs.F32.{◌⊗◌, two32}
use Rattle.scene.proofs.transforms.twice_root.Goals as goal

pub returns : goal.returns
returns c = ap (λ (r : Float). r ⊗ two32) c.sqrt.ensures
