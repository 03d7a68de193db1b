use mathlib.Core.Path.{refl}
use Rattle.tables.specs.Decoded.{lent_of}
use Rattle.spelling.proofs.Pushing.{going-length}
use Rattle.scene_writing.proofs.TableLaws.{record-more, table_done}
use Rattle.scene_writing.proofs.put_table.Goals as goal

pub loop-i-init : goal.loop-i-init
loop-i-init c = refl

pub loop-i-preserved : goal.loop-i-preserved
loop-i-preserved c =
    record-more (lent_of c.args.lent) _ _ _ _ _ c.loop-i.invariant c.loop-i-test.true c.put_record-next.ensures

pub shape_of-out : goal.shape_of-out
shape_of-out c = going-length _ _ _ _ c.loop-i.invariant

pub returns : goal.returns
returns c =
    table_done (lent_of c.args.lent) _ _ _ _ c.table_for-t.ensures c.loop-i.invariant c.loop-i-test.false
