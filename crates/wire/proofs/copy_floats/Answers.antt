use mathlib.Core.Path.{refl}
use lib.Ieee.{nan}
use Rattle.model.proofs.Filling.{step}
use Rattle.wire.proofs.copy_floats.Goals as goal

pub loop-i-preserved : goal.loop-i-preserved
loop-i-preserved c = step _ _ _ _ _ _ nan c.loop-i.invariant c.loop-i-test.true refl
