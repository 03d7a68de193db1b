use Rattle.std.proofs.Common.{◌≡◌}
use Rattle.lists.specs.Digits.{are_digits}
use Rattle.lists.proofs.digits.are_digits.Given as goal

abbrev pub invariant-loop-k : goal.invariant-loop-k
invariant-loop-k l = l.all ≡ are_digits l.text l.from l.k
