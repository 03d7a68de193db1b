use mathlib.Core.Path.{refl}
use Rattle.model.specs.Sampling.{value_factor, out_factor, next_factor, in_factor}
use Rattle.blend.proofs.hermite.Goals as goal

pub returns : goal.returns
unfolding value_factor out_factor next_factor in_factor
returns c = (refl, refl, refl, refl)
