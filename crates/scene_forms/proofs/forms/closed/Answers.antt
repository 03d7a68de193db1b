use native.Mathlib.Omega.{arith}
use Rattle.scene_schema.proofs.Numbers.{stride_few}
use Rattle.scene_forms.proofs.FormLaws.{closed-told}
use Rattle.scene_forms.proofs.forms.closed.Goals as goal

pub ahead-requires : goal.ahead-requires
ahead-requires c =
    let a = c.args in
    omega (arith, c.stride.ensures, stride_few a.k)

pub returns : goal.returns
returns c =
    let a = c.args in
    closed-told _ a.k a.p a.s a.marks.now c.behind.ensures c.behind-2.ensures
    c.meet.ensures c.meet-2.ensures c.groups_hold.ensures c.judge.ensures
    c.stride.ensures c.ahead.ensures c.reach_in.ensures c.max.ensures
    c.request_in.ensures
