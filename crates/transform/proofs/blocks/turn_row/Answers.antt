use mathlib.Core.Path.{ap, ◌∙◌}
use Rattle.model.specs.Matrix.{turned}
use Rattle.scene.specs.Values.{vec3, mat3}
use Rattle.transform.specs.Blocks.{xyz_turned, unit_over}
use Rattle.transform.proofs.Blocked.{row-alike, unit-turned}
use Rattle.transform.proofs.blocks.turn_row.Goals as goal

pub returns : goal.returns
returns c =
    let a = c.args in
    let d = vec3 c.mul3-d.result in
    c.put_unit.ensures
    ∙ row-alike a.w (unit_over d) (xyz_turned (mat3 a.l)) a.k a.s.now (unit-turned a.w (mat3 a.l) a.k a.s.now d c.requires.0 (c.mul3-d.ensures ∙ ap (turned (mat3 a.l)) c.load3.ensures))
