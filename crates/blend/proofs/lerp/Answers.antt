use Rattle.model.specs.Sampling.{lerp}
use Rattle.blend.proofs.lerp.Goals as goal

pub returns : goal.returns
unfolding lerp
returns g c = c.weighted.ensures
