use Rattle.scene_forms.proofs.FormLaws.{opened-told}
use Rattle.scene_forms.proofs.forms.opened.Goals as goal

pub returns : goal.returns
returns c =
    let a = c.args in
    opened-told _ a.k a.p c.title-title.ensures c.meet.ensures c.meet_bytes.ensures
