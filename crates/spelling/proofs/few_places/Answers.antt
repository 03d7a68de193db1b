use mathlib.Core.Path.{refl, sym}
use native.Mathlib.Omega.{arith}
use Rattle.spelling.proofs.DigitLaws.{places-exact}
use Rattle.spelling.proofs.few_places.Goals as goal

pub returns-then-n-lt10 : goal.returns-then-n-lt10
returns-then-n-lt10 c =
    (sym (places-exact 0 9 _ 0 10 refl refl (omega arith) (omega arith) c.if-n-lt10.true), omega arith)

pub returns-then-n-lt100 : goal.returns-then-n-lt100
returns-then-n-lt100 c =
    (sym (places-exact 1 9 _ 10 100 refl refl (omega arith) (omega arith) c.if-n-lt100.true), omega arith)

pub returns-then-n-lt1000 : goal.returns-then-n-lt1000
returns-then-n-lt1000 c =
    (sym (places-exact 2 9 _ 100 1000 refl refl (omega arith) (omega arith) c.if-n-lt1000.true), omega arith)

pub returns-then-n-lt10000 : goal.returns-then-n-lt10000
returns-then-n-lt10000 c =
    (sym (places-exact 3 9 _ 1000 10000 refl refl (omega arith) (omega arith) c.if-n-lt10000.true), omega arith)

pub returns : goal.returns
returns c =
    (sym (places-exact 4 9 _ 10000 100000 refl refl (omega arith) c.if-n-lt10000.false (omega (arith, c.requires))), omega arith)
