use Rattle.model.specs.Matrix.{determinant}
use mathlib.Core.Path.{refl}
use Rattle.scene.proofs.matrices.linear_det.Goals as goal

pub returns : goal.returns
unfolding determinant
returns c = refl
