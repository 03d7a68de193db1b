use Rattle.spelling.proofs.Pushing.{put-append}
use Rattle.scene_spelling.proofs.fields.put_items.Goals as goal

pub returns : goal.returns
returns g c =
    put-append _ _ _ (put-append _ _ _ c.open_field-a.ensures c.put_items-b.ensures) c.put.ensures
