use mathlib.Core.List.{◌++◌}
use Rattle.model.specs.Matrix.{bottom_row}
use Rattle.model.specs.Inverse.{inverse_from, inverse_row}
use Rattle.inverse.proofs.inverse_from.Goals as goal

pub returns : goal.returns
unfolding inverse_from inverse_row
returns c = λ j. c.inverse_row-x.ensures j ++ c.inverse_row-y.ensures j ++ c.inverse_row-z.ensures j ++ bottom_row
