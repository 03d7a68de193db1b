use Rattle.std.proofs.Common.{refl, add-one}
use Rattle.lists.specs.Digits.{are_digits}
use Rattle.lists.proofs.digits.are_digits.Goals as goal

pub loop-k-init : goal.loop-k-init
unfolding are_digits
loop-k-init c = refl

pub loop-k-preserved : goal.loop-k-preserved
unfolding are_digits
loop-k-preserved c = rw add-one (cc)
