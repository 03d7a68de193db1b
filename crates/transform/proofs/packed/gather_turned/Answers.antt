use mathlib.Core.Path.{refl, ap, ◌∙◌}
use native.Mathlib.Omega.{arith}
use Rattle.model.specs.Matrix.{turned}
use Rattle.scene.specs.Values.{mat3}
use Rattle.transform.proofs.Packing.{measured-more, measured-all}
use borrow.Author.Rules.{rules}
use Rattle.transform.proofs.packed.gather_turned.Goals as goal

pub loop-i-preserved : goal.loop-i-preserved
loop-i-preserved c =
    let l = c.loop-i in
    let n = c.store3-arg-1.given.0 in
    let e = c.mul3-v.ensures ∙ ap (turned (mat3 c.args.l)) c.load3.ensures in
    (search rules, measured-more l.i _ l.d _ l.out _ _ c.loop-i-test.true (omega (arith, n)) refl l.invariant.1 c.store3.ensures e c.square.ensures)

pub returns : goal.returns
returns c = let l = c.loop-i in measured-all l.i _ l.d l.out (omega arith) l.invariant.1
