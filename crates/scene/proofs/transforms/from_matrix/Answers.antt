use mathlib.Core.Path.{◌∙◌}
use mathlib.Core.List.{[], ◌∷◌}
use Rattle.model.specs.Transform.{quaternion, split}
use Rattle.scene.proofs.transforms.from_matrix.Goals as goal

pub returns : goal.returns
unfolding split
returns c =
    let r = c.rot_matrix_to_quat-rotation.ensures ∙ (λ j. quaternion (c.axis_of-a.ensures.1 j) (c.axis_of-b.ensures.1 j) (c.axis_of-c.ensures.1 j)) in
    λ j. record { translation = c.column-translation.ensures j; rotation = r j; scale = c.axis_of-a.ensures.0 j ∷ c.axis_of-b.ensures.0 j ∷ c.axis_of-c.ensures.0 j ∷ [] }
