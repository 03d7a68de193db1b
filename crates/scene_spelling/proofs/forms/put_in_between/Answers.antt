use mathlib.Core.Path.{refl, ap}
use lib.Dec.{lit<}
use Rattle.grammar.specs.Digits.{floats}
use Rattle.spelling.proofs.Pushing.{put-append}
use Rattle.scene_schema.specs.Schema.{kinds}
use Rattle.scene_spelling.specs.Written.{bits_of, in_between_form}
use Rattle.scene_spelling.proofs.FieldLaws.{put-there}
use Rattle.scene_spelling.proofs.FormLaws.{put-form}
use Rattle.scene_spelling.proofs.forms.put_in_between.Goals as goal

pub returns : goal.returns
unfolding kinds
returns c =
    put-form 6 _ (lit< tt) (ap (in_between_form _) c.in_between_row-row.ensures)
    (put-append _ _ _
    (put-append _ _ _
    (put-append _ _ _
    (put-append _ _ _
    c.open_form-a.ensures
    (put-there 96 floats _ refl (ap bits_of c.floats_in.ensures) c.put_items-b.ensures))
    c.put_slot-c.ensures)
    c.put_slot-d.ensures)
    c.close_form.ensures)
