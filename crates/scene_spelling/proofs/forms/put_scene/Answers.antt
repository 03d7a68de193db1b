use mathlib.Core.Path.{refl}
use lib.Dec.{lit<}
use Rattle.grammar.specs.Digits.{numbers}
use Rattle.spelling.proofs.Pushing.{put-append}
use Rattle.scene_schema.specs.Schema.{kinds}
use Rattle.scene_spelling.proofs.FieldLaws.{put-there}
use Rattle.scene_spelling.proofs.FormLaws.{put-form}
use Rattle.scene_spelling.proofs.forms.put_scene.Goals as goal

pub returns : goal.returns
unfolding kinds
returns c =
    put-form 0 _ (lit< tt) refl
    (put-append _ _ _
    (put-append _ _ _
    (put-append _ _ _
    (put-append _ _ _ c.open_form-a.ensures c.put_number-b.ensures)
    c.put_items-c.ensures)
    (put-there 2 numbers _ refl c.words_in.ensures c.put_items-d.ensures))
    c.close_form.ensures)
