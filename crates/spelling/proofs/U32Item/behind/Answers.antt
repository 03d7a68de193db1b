use mathlib.Core.Path.{refl}
use Rattle.spelling.proofs.Pushing.{behind_more, behind-done}
use Rattle.spelling.proofs.U32Item.behind.Goals as goal

pub loop-n-preserved : goal.loop-n-preserved
loop-n-preserved c =
    behind_more _ _ _ _ c.loop-n.invariant c.loop-n-test.true c.places_at_once.ensures.0 c.advanced-k.ensures

pub returns : goal.returns
returns c = behind-done _ _ _ _ c.loop-n.invariant c.loop-n-test.false

pub loop-n-init : goal.loop-n-init
loop-n-init c = refl
