use Rattle.scene_forms.proofs.FormLaws.{same-request, request-told}
use Rattle.scene_forms.proofs.forms.request_in.Goals as goal

pub returns-then-k-ne0 : goal.returns-then-k-ne0
returns-then-k-ne0 c = same-request _ c.args.marks.now _ c.if-k-ne0.true

pub returns : goal.returns
returns c =
    request-told _ c.args.marks.now _ c.if-k-ne0.false c.mark_at-node.ensures
    c.mark_at-time.ensures c.mark_at-roots.ensures
