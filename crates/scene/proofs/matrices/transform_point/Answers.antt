use mathlib.Core.Path.{◌∙◌}
use Rattle.model.specs.Vertices.{divided, transformed_point}
use Rattle.scene.proofs.matrices.transform_point.Goals as goal

pub returns : goal.returns
unfolding transformed_point
returns c = c.divide.ensures ∙ (λ j. divided (c.bottom.ensures j) (c.affine_point.ensures j))
