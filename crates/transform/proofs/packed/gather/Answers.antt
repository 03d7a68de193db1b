use mathlib.Core.Path.{refl}
use native.Mathlib.Omega.{arith}
use Rattle.transform.proofs.Packing.{packed_more}
use borrow.Author.Rules.{rules}
use Rattle.transform.proofs.packed.gather.Goals as goal

pub loop-i-preserved : goal.loop-i-preserved
loop-i-preserved c =
    let l = c.loop-i in
    let n = c.store3-arg-1.given.0 in
    (search rules, packed_more l.i _ l.d _ _ (omega (arith, n)) refl l.invariant.1 c.store3.ensures c.load3-v.ensures)
