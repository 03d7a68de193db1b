use Rattle.mesh.specs.Stations.{widened_in}
use Rattle.mesh.proofs.stations.widened.Goals as goal

pub returns : goal.returns
unfolding widened_in
returns c = λ j. record { segment = c.narrowed.ensures j; positions = c.longer.ensures j; normals = c.longer-2.ensures j }
