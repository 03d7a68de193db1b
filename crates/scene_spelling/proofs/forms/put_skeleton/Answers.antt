use mathlib.Core.Path.{refl, ap}
use lib.Dec.{lit<}
use Rattle.grammar.specs.Digits.{numbers, floats}
use Rattle.spelling.proofs.Pushing.{put-append}
use Rattle.scene_schema.specs.Schema.{kinds}
use Rattle.scene_spelling.specs.Written.{bits_of, skeleton_form}
use Rattle.scene_spelling.proofs.FieldLaws.{put-there}
use Rattle.scene_spelling.proofs.FormLaws.{put-form}
use Rattle.scene_spelling.proofs.forms.put_skeleton.Goals as goal

pub returns : goal.returns
unfolding kinds
returns c =
    put-form 8 _ (lit< tt) (ap (skeleton_form _ _) c.skeleton_row-row.ensures)
    (put-append _ _ _
    (put-append _ _ _
    (put-append _ _ _
    c.open_form-a.ensures
    (put-there 128 numbers _ refl c.words_in.ensures c.put_items-b.ensures))
    (put-there 129 floats _ refl (ap bits_of c.floats_in.ensures) c.put_items-c.ensures))
    c.close_form.ensures)
