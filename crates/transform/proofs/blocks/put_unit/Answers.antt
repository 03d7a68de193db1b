use mathlib.Core.Path.{refl}
use Rattle.transform.proofs.Blocked.{row-unit}
use Rattle.scene.specs.Values.{vec3}
use Rattle.transform.proofs.blocks.put_unit.Goals as goal

pub returns : goal.returns
returns c =
    let a = c.args in
    row-unit a.w a.k a.s.now _ (vec3 a.d) _ _ c.requires.0 c.requires.1 refl c.load3-v.ensures c.unit_or.ensures c.store3.ensures
