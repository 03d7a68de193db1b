use mathlib.Core.Path.{refl, ap}
use mathlib.Core.List.{[], ◌∷◌}
use lib.Dec.{lit<}
use Rattle.grammar.specs.Digits.{numbers, floats}
use Rattle.spelling.proofs.Pushing.{put-append}
use Rattle.scene_schema.specs.Schema.{kinds}
use Rattle.scene_spelling.specs.Written.{node_form, parts_field, matrix_field}
use Rattle.scene_spelling.specs.Texts.{slot_text}
use Rattle.scene_spelling.proofs.FieldLaws.{put-there}
use Rattle.scene_spelling.proofs.FormLaws.{put-joined, put-form}
use Rattle.scene_spelling.proofs.forms.put_node.Goals as goal

pub returns : goal.returns
unfolding kinds
returns c =
    let floats_lent = c.args.lent.floats.now in
    let row = c.node_row-row.result in
    let base = slot_text 16 floats (parts_field floats_lent row.form row.base) in
    let matrix = slot_text 17 floats (matrix_field floats_lent row.form row.base) in
    put-form 1 _ (lit< tt) (ap (node_form _ _ _) c.node_row-row.ensures)
    (put-append _ _ _
    (put-append _ _ _
    (put-append _ _ _
    (put-append _ _ _
    (put-append _ _ _
    (put-joined _ base (matrix ∷ []) _ c.open_form-a.ensures c.put_base-b.ensures)
    (put-there 18 numbers _ refl c.words_in.ensures c.put_items-c.ensures))
    c.put_id-d.ensures)
    c.put_id-e.ensures)
    c.put_slot-f.ensures)
    c.close_form.ensures)
