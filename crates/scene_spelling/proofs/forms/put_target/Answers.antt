use mathlib.Core.Path.{ap}
use lib.Dec.{lit<}
use Rattle.tables.specs.declared.TargetRow.{TargetRow}
use Rattle.spelling.proofs.Pushing.{put-append}
use Rattle.scene_schema.specs.Schema.{kinds}
use Rattle.scene_spelling.specs.Written.{target_form}
use Rattle.scene_spelling.proofs.FieldLaws.{part-fits}
use Rattle.scene_spelling.proofs.FormLaws.{put-form}
use Rattle.scene_spelling.proofs.forms.put_target.Goals as goal

pub put_list-e-requires : goal.put_list-e-requires
put_list-e-requires c =
    part-fits _ _ _ _ 9 (ap (λ (r : TargetRow). r.in_betweens) c.target_row-row.ensures)
    c.type_inv.words

pub returns : goal.returns
unfolding kinds
returns c =
    put-form 5 _ (lit< tt) (ap (target_form _) c.target_row-row.ensures)
    (put-append _ _ _
    (put-append _ _ _
    (put-append _ _ _
    (put-append _ _ _
    (put-append _ _ _ c.open_form-a.ensures c.put_slot-b.ensures)
    c.put_slot-c.ensures)
    c.put_slot-d.ensures)
    c.put_list-e.ensures)
    c.close_form.ensures)
