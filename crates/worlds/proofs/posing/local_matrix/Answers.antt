use mathlib.Core.Path.{ap, ◌∙◌}
use Rattle.model.specs.Transform.{to_matrix}
use Rattle.model.specs.Pose.{local_transform}
use Rattle.tables.specs.Decoded.{base_of}
use Rattle.pose_slots.specs.Slots.{pose_of}
use Rattle.pose_slots.proofs.SlotLaws.{slot-pose}
use Rattle.worlds.specs.Posed.{local_in}
use Rattle.worlds.proofs.posing.local_matrix.Goals as goal

pub returns : goal.returns
unfolding local_in
returns c =
    let a = c.args in
    let base = c.base_of-base.ensures ∙ ap (base_of a.lent.floats.now) c.node_row.ensures in
    let pose = ap pose_of c.pose_at.ensures ∙ slot-pose a.marks.now a.slots.now a.i in
    c.to_matrix.ensures ∙ ap to_matrix (c.local_transform.ensures ∙ (λ j. local_transform (pose j) (base j)))
