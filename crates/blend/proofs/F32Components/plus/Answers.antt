use mathlib.Core.Path.{refl}
use mathlib.Core.List.{zip_with}
use Rattle.blend.proofs.F32Components.plus.Goals as goal

pub returns : goal.returns
unfolding zip_with
returns c = refl
