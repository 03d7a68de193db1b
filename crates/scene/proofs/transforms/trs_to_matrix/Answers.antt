use mathlib.Core.Path.{refl}
use Rattle.model.specs.Transform.{from_trs}
use Rattle.scene.proofs.transforms.trs_to_matrix.Goals as goal

pub returns : goal.returns
unfolding from_trs
returns c = refl
