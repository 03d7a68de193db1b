use mathlib.Core.Path.{sym, ap, ◌∙◌}
use Rattle.model.specs.Transform.{parts_of}
use Rattle.scene.specs.Values.{transform_of}
use Rattle.scene.specs.declared.Transform.{Transform}
use Rattle.pose_slots.proofs.overlay.parts_of.Goals as goal

pub returns-in-Trs : goal.returns-in-Trs
returns-in-Trs c = sym (ap (λ (t : Transform). parts_of (transform_of t)) c.in-Trs.is)

pub returns-in-Matrix : goal.returns-in-Matrix
returns-in-Matrix c = c.from_matrix.ensures ∙ sym (ap (λ (t : Transform). parts_of (transform_of t)) c.in-Matrix.is)
