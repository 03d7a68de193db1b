use mathlib.Core.Bool.{not, ◌&&◌, ◌||◌}
use Rattle.inverse.proofs.is_affine.Goals as goal

pub returns : goal.returns
returns c = λ j. c.are_finite.ensures j && not (c.is_apart.ensures j || c.is_apart-2.ensures j || c.is_apart-3.ensures j || c.is_apart-4.ensures j)
