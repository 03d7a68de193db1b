use mathlib.Core.Path.{refl, ◌∙◌}
use Rattle.spelling.proofs.Pushing.{going-length, put-append}
use Rattle.scene_spelling.proofs.FieldLaws.{put_same, put-length}
use Rattle.scene_writing.proofs.TableLaws.{tables_more, tables-done, scene-text}
use Rattle.scene_writing.proofs.put_text.Goals as goal

pub loop-k-init : goal.loop-k-init
loop-k-init c = refl

pub loop-k-preserved : goal.loop-k-preserved
loop-k-preserved c =
    tables_more _ _ _ _ c.loop-k.invariant c.loop-k-test.true c.put_table-next.ensures

pub shape_of-out : goal.shape_of-out
shape_of-out c =
    going-length _ _ _ _ c.loop-k.invariant ∙ put-length _ _ c.put_scene-next.ensures

pub returns : goal.returns
returns c =
    put_same _ (scene-text _ _ _)
    (put-append _ _ _ c.put_scene-next.ensures (tables-done _ _ _ c.loop-k.invariant c.loop-k-test.false))
