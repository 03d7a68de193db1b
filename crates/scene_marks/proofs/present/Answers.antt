use Rattle.scene_marks.proofs.MarkLaws.{counting-starts, counting-on, counting_more, counting-ends}
use Rattle.scene_marks.proofs.present.Goals.{then-m-ne0, else-m-ne0}
use Rattle.scene_marks.proofs.present.Goals as goal

pub loop-i-preserved : goal.loop-i-preserved
loop-i-preserved c =
    let going = c.loop-i.invariant in
    elim c.if-m-ne0.branch [
      | then-m-ne0 w ↦ counting_more going c.loop-i-test.true c.mark_at-m.ensures w.if-m-ne0.true w.count-is
      | else-m-ne0 w ↦ counting-on going c.loop-i-test.true c.mark_at-m.ensures w.if-m-ne0.false w.count-is
    ]

pub returns : goal.returns
returns c = counting-ends c.loop-i.invariant c.loop-i-test.false

pub loop-i-init : goal.loop-i-init
loop-i-init c = counting-starts
