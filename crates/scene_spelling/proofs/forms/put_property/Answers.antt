use Rattle.spelling.proofs.Pushing.{put-append}
use Rattle.scene_spelling.proofs.forms.put_property.Goals as goal

pub returns : goal.returns
returns c =
    put-append _ _ _
    (put-append _ _ _
    (put-append _ _ _ c.put_tag-a.ensures c.put_tag-b.ensures)
    c.put_tag-c.ensures)
    c.put_tag.ensures
