use mathlib.Core.Path.{sym, ◌∙◌}
use lib.Dec.{lit≤}
use Rattle.scene.specs.Values.{mat3}
use Rattle.transform.proofs.Packing.{lengths-taken}
use Rattle.transform.proofs.Blocked.{block-units, turned-parts, block-turned}
use Rattle.transform.proofs.blocks.turn_tangent_block.Goals as goal

pub returns-then-r : goal.returns-then-r
returns-then-r c =
    let a = c.args in
    block-turned 4 (mat3 a.l) a.k a.tangents.now _ _ (lit≤ tt) (turned-parts _ (mat3 a.l) _ _ c.gather.ensures c.turn.ensures.0)
    (block-units 4 a.k a.tangents.now _ _ _ _ _ c.turn.ensures.1 (sym c.sqrt_block-r.ensures.1 ∙ c.if-r.true) c.sqrt_block-r.ensures.0 c.units.ensures c.put.ensures)

pub put_each-requires : goal.put_each-requires
put_each-requires c = (lit≤ tt, c.requires, lengths-taken _ _ _ c.turn.ensures.1 c.sqrt_block-r.ensures.0)

pub returns : goal.returns
returns c =
    let a = c.args in
    block-turned 4 (mat3 a.l) a.k a.tangents.now _ _ (lit≤ tt) (turned-parts _ (mat3 a.l) _ _ c.gather.ensures c.turn.ensures.0) c.put_each.ensures
