use Rattle.skinning.proofs.HeldSteps.{hands, held_by, held_none}
use Rattle.skinning.proofs.holding.hold_vertex.Goals as goal

pub returns-in-Some-clause-held : goal.returns-in-Some-clause-held
returns-in-Some-clause-held c =
    let a = c.args in
    let o = a.out.now in
    held_by a.whole a.joint a.v a.i o.positions.now o.normals.now o.tangents.now a.n.now a.t.now _ _ _ _ _ c.in-Some.is c.move_position.ensures
    (record {
      tangents = hands c.in-Some.m.m _ a.v o.tangents.now _ c.linear_det-mirror.ensures c.hand.ensures;
      normal = c.hold_normal.ensures;
      tangent = c.hold_tangent.ensures;
    })

pub returns-clause-held : goal.returns-clause-held
returns-clause-held c =
    let a = c.args in
    let o = a.out.now in
    held_none a.whole a.joint a.v a.i o.positions.now o.normals.now o.tangents.now a.n.now a.t.now _ _ c.in_default.is c.hold_zeros.ensures.0 c.hold_zeros.ensures.1
