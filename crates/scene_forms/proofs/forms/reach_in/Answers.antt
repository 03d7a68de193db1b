use Rattle.scene_forms.proofs.FormLaws.{reach-told}
use Rattle.scene_forms.proofs.forms.reach_in.Goals as goal

pub returns : goal.returns
returns c =
    let a = c.args in
    reach-told a.k a.marks.now c.list_slot.ensures c.mark_at-m.ensures
