use mathlib.Core.Path.{refl}
use mathlib.Core.List.{zip_with}
use Rattle.model.specs.Lists.{foldl}
use Rattle.model.specs.Vector.{total, dot}
use Rattle.model.specs.Matrix.{moved}
use Rattle.scene.proofs.matrices.bottom.Goals as goal

pub returns : goal.returns
unfolding moved dot total foldl zip_with
returns c = refl
