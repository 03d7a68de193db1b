use mathlib.Core.Path.{refl}
use Rattle.model.specs.Inverse.{cofactors64}
use Rattle.inverse.proofs.cofactors64.Goals as goal

pub returns : goal.returns
unfolding cofactors64
returns c = refl
