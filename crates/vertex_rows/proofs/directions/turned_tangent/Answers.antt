use Rattle.scene.specs.Values.{vec3, mat3}
use Rattle.vertex_rows.proofs.Turned.{flips, stays}
use Rattle.vertex_rows.proofs.directions.turned_tangent.Goals as goal

pub returns-then-mirror : goal.returns-then-mirror
returns-then-mirror c =
    let a = c.args in
    let t = a.t in
    flips (mat3 a.l) a.mirror t.direction.x t.direction.y t.direction.z t.handedness (vec3 c.turned_unit-direction.result) c.turned_unit-direction.ensures c.if-mirror.true

pub returns : goal.returns
returns c =
    let a = c.args in
    let t = a.t in
    stays (mat3 a.l) a.mirror t.direction.x t.direction.y t.direction.z t.handedness (vec3 c.turned_unit-direction.result) c.turned_unit-direction.ensures c.if-mirror.false
