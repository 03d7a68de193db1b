use mathlib.Core.Path.{◌∙◌, ap}
use lib.Ieee.{binary32}
use Rattle.float.specs.Sqrt.{sqrt_of}
use Rattle.model.specs.Vector.{norm}
use Rattle.blend.proofs.length4.Goals as goal

pub returns : goal.returns
unfolding norm
returns c = c.sqrt.ensures ∙ ap (sqrt_of binary32) c.dot4.ensures
