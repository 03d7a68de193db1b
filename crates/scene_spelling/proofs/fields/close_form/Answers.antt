use Rattle.spelling.proofs.Pushing.{put-append}
use Rattle.scene_spelling.proofs.fields.close_form.Goals as goal

pub returns : goal.returns
returns c =
    put-append _ _ _ c.put-a.ensures c.put.ensures
