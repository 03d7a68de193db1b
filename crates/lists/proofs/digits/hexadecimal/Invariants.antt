use Rattle.std.proofs.Common.{◌≡◌}
use Rattle.lists.specs.Digits.{spelled}
use Rattle.lists.proofs.digits.hexadecimal.Given as goal

abbrev pub invariant-loop-k : goal.invariant-loop-k
invariant-loop-k l = l.n ≡ spelled l.text l.from l.k
