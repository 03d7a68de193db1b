use mathlib.Core.Path.{refl, ap}
use lib.Dec.{lit<}
use Rattle.tables.specs.declared.MeshRow.{MeshRow}
use Rattle.grammar.specs.Digits.{floats}
use Rattle.spelling.proofs.Pushing.{put-append}
use Rattle.scene_schema.specs.Schema.{kinds}
use Rattle.scene_spelling.specs.Written.{bits_of, mesh_form}
use Rattle.scene_spelling.proofs.FieldLaws.{put-there, part-fits}
use Rattle.scene_spelling.proofs.FormLaws.{put-form}
use Rattle.scene_spelling.proofs.forms.put_mesh.Goals as goal

pub put_list-b-requires : goal.put_list-b-requires
put_list-b-requires c =
    part-fits _ _ _ _ 0 (ap (λ (r : MeshRow). r.primitives) c.mesh_row-row.ensures)
    c.type_inv.words

pub returns : goal.returns
unfolding kinds
returns c =
    put-form 3 _ (lit< tt) (ap (mesh_form _) c.mesh_row-row.ensures)
    (put-append _ _ _
    (put-append _ _ _
    (put-append _ _ _ c.open_form-a.ensures c.put_list-b.ensures)
    (put-there 49 floats _ refl (ap bits_of c.floats_in.ensures) c.put_items-c.ensures))
    c.close_form.ensures)
