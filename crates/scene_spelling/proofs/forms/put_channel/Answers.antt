use mathlib.Core.Path.{refl, ap}
use mathlib.Core.List.{[], ◌∷◌}
use lib.Dec.{lit<}
use Rattle.grammar.specs.Digits.{floats}
use Rattle.spelling.proofs.Pushing.{put-append}
use Rattle.scene_schema.specs.Schema.{kinds}
use Rattle.scene_spelling.specs.Written.{bits_of, channel_form}
use Rattle.scene_spelling.proofs.FieldLaws.{put-there}
use Rattle.scene_spelling.proofs.FormLaws.{put-joined, put-form}
use Rattle.scene_spelling.proofs.forms.put_channel.Goals as goal

pub returns : goal.returns
unfolding kinds
returns c =
    put-form 2 _ (lit< tt) (ap (channel_form _) c.channel_row-row.ensures)
    (put-append _ _ _
    (put-joined _ _ (_ ∷ _ ∷ []) _
    (put-append _ _ _
    (put-joined _ _ (_ ∷ _ ∷ []) _
    (put-joined _ _ (_ ∷ _ ∷ _ ∷ []) _
    (put-append _ _ _ c.open_form-a.ensures c.put_number-b.ensures)
    c.put_property-c.ensures)
    c.put_interpolation-d.ensures)
    (put-there 40 floats _ refl (ap bits_of c.floats_in.ensures) c.put_items-e.ensures))
    c.put_values-f.ensures)
    c.close_form.ensures)
