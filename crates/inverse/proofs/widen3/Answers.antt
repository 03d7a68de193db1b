use mathlib.Core.List.{[], ◌∷◌}
use Rattle.inverse.proofs.widen3.Goals as goal

pub returns : goal.returns
returns c = λ j. c.widen.ensures j ∷ c.widen-2.ensures j ∷ c.widen-3.ensures j ∷ c.widen-4.ensures j ∷ c.widen-5.ensures j ∷ c.widen-6.ensures j ∷ c.widen-7.ensures j ∷ c.widen-8.ensures j ∷ c.widen-9.ensures j ∷ []
