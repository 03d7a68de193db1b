use mathlib.Core.Path.{refl}
use Rattle.scene.proofs.matrices.linear_part.Goals as goal

pub returns : goal.returns
returns c = refl
