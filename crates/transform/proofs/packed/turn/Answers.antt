use mathlib.Core.Path.{refl, ap, ◌∙◌}
use native.Mathlib.Omega.{arith}
use lib.ListN.{take}
use Rattle.model.specs.Matrix.{turned}
use Rattle.scene.specs.Values.{vec3, mat3}
use Rattle.transform.proofs.Packing.{measured-more, measured-all, rest-after}
use borrow.Author.Rules.{rules}
use Rattle.transform.proofs.packed.turn.Goals as goal

pub loop-i-preserved : goal.loop-i-preserved
loop-i-preserved c =
    let l = c.loop-i in
    let n = c.load3-arg-in-loop-i-1.given in
    let x = c.mul3-v in
    let e = x.ensures ∙ ap (turned (mat3 c.args.l)) (c.load3.ensures ∙ ap (take 3) l.invariant.1) in
    let t = c.store3.ensures in
    (search rules, rest-after l.i _ l.d _ (vec3 x.result) (omega (arith, n)) refl l.invariant.1 t, measured-more l.i _ l.d _ l.out _ _ c.loop-i-test.true (omega (arith, n)) refl l.invariant.2 t e c.square.ensures)

pub returns : goal.returns
returns c = let l = c.loop-i in measured-all l.i _ l.d l.out (omega arith) l.invariant.2
