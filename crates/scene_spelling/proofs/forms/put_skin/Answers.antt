use mathlib.Core.Path.{ap}
use lib.Dec.{lit<}
use Rattle.spelling.proofs.Pushing.{put-append}
use Rattle.scene_schema.specs.Schema.{kinds}
use Rattle.scene_spelling.specs.Written.{skin_form}
use Rattle.scene_spelling.proofs.FormLaws.{put-form}
use Rattle.scene_spelling.proofs.forms.put_skin.Goals as goal

pub returns : goal.returns
unfolding kinds
returns c =
    put-form 7 _ (lit< tt) (ap skin_form c.skin_row-row.ensures)
    (put-append _ _ _
    (put-append _ _ _
    (put-append _ _ _ c.open_form-a.ensures c.put_number-b.ensures)
    c.put_id-c.ensures)
    c.close_form.ensures)
