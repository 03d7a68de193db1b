use mathlib.Core.Path.{ap}
use mathlib.Core.List.{◌∷◌}
use Rattle.spelling.proofs.Pushing.{put-append}
use Rattle.scene_schema.specs.Numbers.{Named}
use Rattle.scene_spelling.proofs.FieldLaws.{put_same}
use Rattle.scene_spelling.proofs.fields.open_form.Goals as goal

pub returns : goal.returns
returns c =
    put_same _ (ap (λ (n : Named). 40 ∷ n.letters) c.title-title.ensures)
    (put-append _ _ _ c.put-a.ensures c.put_bytes.ensures)
