use mathlib.Core.Path.{◌∙◌}
use Rattle.bake_writing.proofs.PosedWeights.{unposed}
use Rattle.bake_writing.proofs.weighing.unposed_weights.Goals as goal

pub returns : goal.returns
returns c = unposed _ _ _ _ _ _ _ _ c.weights_of.ensures c.copy_floats.ensures c.copy_floats-arg-1.given.0.1 (c.copy_floats.auto.out ∙ c.copy_floats-arg-1.given.0.1)
