use mathlib.Core.List.{[], ◌∷◌}
use Rattle.model.specs.Inverse.{inverse_row}
use Rattle.inverse.proofs.inverse_row.Goals as goal

pub returns : goal.returns
unfolding inverse_row
returns c = λ j. c.narrow.ensures j ∷ c.narrow-2.ensures j ∷ c.narrow-3.ensures j ∷ c.narrow-4.ensures j ∷ []
