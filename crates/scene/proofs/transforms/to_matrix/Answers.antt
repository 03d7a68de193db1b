use mathlib.Core.Path.{◌∙◌, ap, sym}
use Rattle.model.specs.Transform.{to_matrix}
use Rattle.scene.specs.Values.{transform_of}
use Rattle.scene.specs.declared.Transform.{Transform}
use Rattle.scene.proofs.transforms.to_matrix.Goals as goal

pub returns-in-Trs : goal.returns-in-Trs
unfolding to_matrix
returns-in-Trs c = c.trs_to_matrix.ensures ∙ sym (ap (λ (t : Transform). to_matrix (transform_of t)) c.in-Trs.is)

pub returns-in-Matrix : goal.returns-in-Matrix
unfolding to_matrix
returns-in-Matrix c = sym (ap (λ (t : Transform). to_matrix (transform_of t)) c.in-Matrix.is)
