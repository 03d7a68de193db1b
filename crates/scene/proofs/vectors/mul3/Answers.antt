use mathlib.Core.Path.{refl}
use mathlib.Core.List.{zip_with}
use Rattle.model.specs.Lists.{foldl}
use Rattle.model.specs.Vector.{total, dot}
use Rattle.model.specs.Matrix.{turned}
use Rattle.scene.proofs.vectors.mul3.Goals as goal

pub returns : goal.returns
unfolding turned dot total foldl zip_with
returns c = refl
