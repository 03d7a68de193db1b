use mathlib.Core.Path.{ap, ◌∙◌}
use Rattle.model.specs.Vector.{◌⊙◌, norm}
use Rattle.model.specs.Transform.{length_factor}
use Rattle.scene.proofs.transforms.axis_of.Goals as goal

pub returns : goal.returns
returns c =
    let e = c.column-c.ensures in
    let n = c.vec3_len-length.ensures ∙ ap norm e in
    let f = c.length_factor.ensures ∙ ap length_factor n in
    (n, c.scaled-direction.ensures ∙ (λ j. f j ⊙ e j))
