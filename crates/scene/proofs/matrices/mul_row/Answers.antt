use mathlib.Core.Path.{refl}
use mathlib.Core.List.{zip_with}
use Rattle.model.specs.Lists.{foldl, tabulate}
use Rattle.model.specs.Vector.{total, dot}
use Rattle.scene.proofs.matrices.mul_row.Goals as goal

pub returns : goal.returns
unfolding tabulate dot total foldl zip_with
returns c = refl
