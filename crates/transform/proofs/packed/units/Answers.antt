use mathlib.Core.Path.{refl, ap, ◌∙◌}
use native.Mathlib.Omega.{arith}
use lib.Ieee.{nan}
use lib.ListN.{get_or, take}
use Rattle.model.specs.Vector.{Vector, over}
use Rattle.scene.specs.Values.{vec3}
use Rattle.transform.proofs.Packing.{packed_more, rest-after}
use borrow.Author.Rules.{rules}
use Rattle.transform.proofs.packed.units.Goals as goal

pub loop-i-preserved : goal.loop-i-preserved
loop-i-preserved c =
    let l = c.loop-i in
    let w = c.load3-arg-in-loop-i-1.given in
    let e = c.divided.ensures ∙ ap (λ (v : Vector). over v (get_or c.args.r.of l.i nan)) (c.load3-v.ensures ∙ ap (take 3) l.invariant.2) in
    (search rules, l.invariant.1, rest-after l.i _ l.d _ (vec3 c.divided.result) (omega (arith, w)) refl l.invariant.2 c.store3.ensures, packed_more l.i _ l.d _ _ (omega (arith, w)) refl l.invariant.3 c.store3.ensures e)
