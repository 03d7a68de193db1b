use native.Mathlib.Omega.{arith}
use Rattle.scene_marks.proofs.KindLaws.{kind-of-slot, grouping-starts, grouping-on}
use Rattle.scene_marks.proofs.KindLaws.{grouping-fails, grouping-ends}
use Rattle.scene_marks.proofs.groups_hold.Goals as goal

pub group_holds-requires : goal.group_holds-requires
group_holds-requires c = kind-of-slot _ _ (omega arith)

pub returns-then-not-group_holds : goal.returns-then-not-group_holds
returns-then-not-group_holds c =
    grouping-fails c.loop-j.invariant c.loop-j-test.true c.group_holds.ensures
    c.if-not-group_holds.true

pub loop-j-preserved : goal.loop-j-preserved
loop-j-preserved c =
    grouping-on c.loop-j.invariant c.loop-j-test.true c.group_holds.ensures
    c.if-not-group_holds.false

pub returns : goal.returns
returns c = grouping-ends c.loop-j.invariant c.loop-j-test.false

pub loop-j-init : goal.loop-j-init
loop-j-init c = grouping-starts c.slots-n.ensures
