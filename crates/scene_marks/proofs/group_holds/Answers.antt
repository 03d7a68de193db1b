use Rattle.scene_marks.proofs.KindLaws.{group-none, group-one}
use Rattle.scene_marks.proofs.group_holds.Goals as goal

pub returns-then-n-eq0 : goal.returns-then-n-eq0
returns-then-n-eq0 c =
    let args = c.args in
    group-none args.k args.j args.marks.now c.group-n.ensures c.if-n-eq0.true

pub returns : goal.returns
returns c =
    let args = c.args in
    group-one args.k args.j args.marks.now c.group-n.ensures c.if-n-eq0.false c.present.ensures
