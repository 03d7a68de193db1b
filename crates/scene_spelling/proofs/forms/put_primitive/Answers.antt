use mathlib.Core.Path.{refl, ap}
use lib.Dec.{lit<}
use Rattle.tables.specs.declared.PrimitiveRow.{PrimitiveRow}
use Rattle.grammar.specs.Digits.{floats}
use Rattle.spelling.proofs.Pushing.{put-append}
use Rattle.scene_schema.specs.Schema.{kinds}
use Rattle.scene_spelling.specs.Written.{bits_of, primitive_form}
use Rattle.scene_spelling.proofs.FieldLaws.{put-length, put-there, part-fits}
use Rattle.scene_spelling.proofs.FormLaws.{put-form}
use Rattle.scene_spelling.proofs.forms.put_primitive.Goals as goal

pub put_list-g-requires : goal.put_list-g-requires
put_list-g-requires c =
    part-fits _ _ _ _ 14 (ap (λ (r : PrimitiveRow). r.targets) c.primitive_row-row.ensures)
    c.type_inv.words

pub returns : goal.returns
unfolding kinds
returns c =
    put-form 4 _ (lit< tt) (ap (primitive_form _ _) c.primitive_row-row.ensures)
    (put-append _ _ _
    (put-append _ _ _
    (put-append _ _ _
    (put-append _ _ _
    (put-append _ _ _
    (put-append _ _ _
    (put-append _ _ _
    c.open_form-a.ensures
    (put-there 64 floats _ refl (ap bits_of c.floats_in.ensures) c.put_items-b.ensures))
    c.put_slot-c.ensures)
    c.put_slot-d.ensures)
    c.put_joints-e.ensures)
    c.put_slot-f.ensures)
    c.put_list-g.ensures)
    c.close_form.ensures)

pub shape_of-out : goal.shape_of-out
shape_of-out c = put-length _ _ (returns c)
