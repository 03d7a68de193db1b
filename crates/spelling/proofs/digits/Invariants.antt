use mathlib.Core.Path.{◌≡◌}
use lib.Seq.{sets}
use Rattle.grammar.specs.Digits.{last_digits}
use Rattle.spelling.proofs.digits.Given as goal

abbrev pub invariant-loop-k : goal.invariant-loop-k
invariant-loop-k g l =
    sets l.out l.at (last_digits l.base l.k l.m) ≡ sets l.initial.out l.at (last_digits l.base l.count l.n)
