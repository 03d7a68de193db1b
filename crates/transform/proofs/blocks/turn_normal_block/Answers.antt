use mathlib.Core.Path.{sym, ◌∙◌}
use lib.Dec.{lit≤}
use Rattle.scene.specs.Values.{mat3}
use Rattle.transform.proofs.Packing.{lengths-taken}
use Rattle.transform.proofs.Blocked.{block-units, block-turned}
use Rattle.transform.proofs.blocks.turn_normal_block.Goals as goal

pub returns-then-r : goal.returns-then-r
returns-then-r c =
    let a = c.args in
    block-turned 3 (mat3 a.l) a.k a.normals.now _ _ (lit≤ tt) c.gather_turned.ensures.0
    (block-units 3 a.k a.normals.now _ _ _ _ _ c.gather_turned.ensures.1 (sym c.sqrt_block-r.ensures.1 ∙ c.if-r.true) c.sqrt_block-r.ensures.0 c.units.ensures c.put.ensures)

pub put_each-requires : goal.put_each-requires
put_each-requires c = (lit≤ tt, c.requires, lengths-taken _ _ _ c.gather_turned.ensures.1 c.sqrt_block-r.ensures.0)

pub returns : goal.returns
returns c =
    let a = c.args in
    block-turned 3 (mat3 a.l) a.k a.normals.now _ _ (lit≤ tt) c.gather_turned.ensures.0 c.put_each.ensures
