use mathlib.Core.Path.{refl}
use Rattle.model.specs.Inverse.{determinant64}
use Rattle.inverse.proofs.determinant64.Goals as goal

pub returns : goal.returns
unfolding determinant64
returns c = refl
