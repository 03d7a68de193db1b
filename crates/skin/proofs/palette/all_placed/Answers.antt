use mathlib.Core.Path.{refl, sym, ◌∙◌}
use native.Mathlib.Omega.{arith}
use Rattle.skin_roots.proofs.Every.{one-fails, one_passes, all_pass}
use Rattle.skin.specs.Palette.{has_world}
use Rattle.skin.proofs.palette.all_placed.Goals as goal

pub loop-i-init : goal.loop-i-init
loop-i-init c = (omega arith, refl)

pub returns-then-not-is_placed : goal.returns-then-not-is_placed
returns-then-not-is_placed c =
    let a = c.args in
    let l = c.loop-i in
    one-fails (has_world a.n a.places.now) a.joints.now l.i c.loop-i-test.true l.invariant.1 (sym c.is_placed.ensures ∙ c.if-not-is_placed.true)

pub loop-i-preserved : goal.loop-i-preserved
loop-i-preserved c =
    let a = c.args in
    let l = c.loop-i in
    (omega arith, one_passes (has_world a.n a.places.now) a.joints.now l.i c.loop-i-test.true l.invariant.1 (sym c.is_placed.ensures ∙ c.if-not-is_placed.false))

pub returns : goal.returns
returns c =
    let a = c.args in
    let l = c.loop-i in
    all_pass (has_world a.n a.places.now) a.joints.now l.i c.loop-i-test.false l.invariant.1
