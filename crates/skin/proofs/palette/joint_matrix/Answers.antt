use mathlib.Core.Path.{◌∙◌}
use Rattle.model.specs.Matrix.{mul}
use Rattle.skin.proofs.palette.joint_matrix.Goals as goal

pub returns : goal.returns
returns c =
    c.mat4_mul.ensures ∙ (λ k. mul (c.load.ensures k) (c.bind_at.ensures k))
