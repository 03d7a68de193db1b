use mathlib.Core.Path.{refl}
use mathlib.Core.List.{zip_with}
use Rattle.model.specs.Lists.{foldl}
use Rattle.model.specs.Vector.{total, dot}
use Rattle.transform.proofs.packed.square.Goals as goal

pub returns : goal.returns
unfolding dot total foldl zip_with
returns c = refl
