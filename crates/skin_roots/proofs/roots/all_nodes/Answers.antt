use mathlib.Core.Path.{refl}
use native.Mathlib.Omega.{arith}
use borrow.Author.Tests.{lt-ltb, le-ltb}
use lib.Dec.{ltb}
use lib.ListN.{get_or}
use Rattle.skin_roots.proofs.Every.{one-fails, one_passes, all_pass}
use Rattle.skin_roots.proofs.roots.all_nodes.Goals as goal

pub loop-i-init : goal.loop-i-init
loop-i-init c = (omega arith, refl)

pub returns-then-n-joints : goal.returns-then-n-joints
returns-then-n-joints c =
    let a = c.args in
    let l = c.loop-i in
    one-fails (λ j. ltb j a.n) a.joints.now l.i c.loop-i-test.true l.invariant.1
    (le-ltb (get_or a.joints.now l.i 0) a.n (omega (arith, c.if-n-joints.true)))

pub loop-i-preserved : goal.loop-i-preserved
loop-i-preserved c =
    let a = c.args in
    let l = c.loop-i in (
      omega arith,
      one_passes (λ j. ltb j a.n) a.joints.now l.i c.loop-i-test.true l.invariant.1
          (lt-ltb (get_or a.joints.now l.i 0) a.n (omega (arith, c.if-n-joints.false))),
    )

pub returns : goal.returns
returns c =
    let a = c.args in
    let l = c.loop-i in
    all_pass (λ j. ltb j a.n) a.joints.now l.i c.loop-i-test.false l.invariant.1
