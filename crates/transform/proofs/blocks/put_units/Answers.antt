use mathlib.Core.Path.{◌∙◌, sym}
use Rattle.transform.proofs.Packing.{lengths-taken}
use Rattle.transform.proofs.Blocked.{block-units}
use Rattle.transform.proofs.blocks.put_units.Goals as goal

pub returns-then-r : goal.returns-then-r
returns-then-r c =
    let a = c.args in
    block-units a.w a.k a.s.now _ a.d.now _ _ _ c.squares.ensures (sym c.sqrt_block-r.ensures.1 ∙ c.if-r.true) c.sqrt_block-r.ensures.0 c.units.ensures c.put.ensures

pub put_each-requires : goal.put_each-requires
put_each-requires c =
    (c.requires.0, c.requires.1, lengths-taken c.args.d.now _ _ c.squares.ensures c.sqrt_block-r.ensures.0)
