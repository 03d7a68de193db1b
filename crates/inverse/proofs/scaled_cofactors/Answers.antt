use mathlib.Core.Path.{refl}
use Rattle.model.specs.Matrix.{cofactors}
use Rattle.inverse.proofs.scaled_cofactors.Goals as goal

pub returns : goal.returns
unfolding cofactors
returns c = refl
