use Rattle.std.proofs.Common.{refl, add-one}
use Rattle.lists.specs.Digits.{spelled}
use Rattle.lists.proofs.digits.hexadecimal.Goals as goal

pub loop-k-init : goal.loop-k-init
unfolding spelled
loop-k-init c = refl

pub loop-k-preserved : goal.loop-k-preserved
unfolding spelled
loop-k-preserved c = rw add-one (cc)
