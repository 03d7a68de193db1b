use Rattle.model.specs.Sampling.{cubic}
use Rattle.blend.proofs.cubic.Goals as goal

pub returns : goal.returns
unfolding cubic
returns g c = cc
