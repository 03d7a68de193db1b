-- What `widen`, `series` and `narrow` ensure, put together.
use Rattle.turn.specs.Weight.{weight}
use Rattle.turn.proofs.turn_weight.Goals as goal

pub returns : goal.returns
unfolding weight
returns c = cc
