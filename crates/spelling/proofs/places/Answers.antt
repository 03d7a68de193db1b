use mathlib.Core.Path.{refl, sym}
use native.Mathlib.Omega.{arith}
use Rattle.spelling.proofs.DigitLaws.{places-exact}
use Rattle.spelling.proofs.places.Goals as goal

pub returns-then-n-lt100000 : goal.returns-then-n-lt100000
returns-then-n-lt100000 c = (c.few_places.ensures.0, omega (arith, c.few_places.ensures.1))

pub returns-then-n-lt1000000 : goal.returns-then-n-lt1000000
returns-then-n-lt1000000 c =
    (sym (places-exact 5 9 _ 100000 1000000 refl refl (omega arith) (omega arith) c.if-n-lt1000000.true), omega arith)

pub returns-then-n-lt10000000 : goal.returns-then-n-lt10000000
returns-then-n-lt10000000 c =
    (sym (places-exact 6 9 _ 1000000 10000000 refl refl (omega arith) (omega arith) c.if-n-lt10000000.true), omega arith)

pub returns-then-n-lt100000000 : goal.returns-then-n-lt100000000
returns-then-n-lt100000000 c =
    (sym (places-exact 7 9 _ 10000000 100000000 refl refl (omega arith) (omega arith) c.if-n-lt100000000.true), omega arith)

pub returns-then-n-lt1000000000 : goal.returns-then-n-lt1000000000
returns-then-n-lt1000000000 c =
    (sym (places-exact 8 9 _ 100000000 1000000000 refl refl (omega arith) (omega arith) c.if-n-lt1000000000.true), omega arith)

pub returns : goal.returns
returns c =
    (sym (places-exact 9 9 _ 1000000000 10000000000 refl refl (omega arith) c.if-n-lt1000000000.false (omega arith)), omega arith)
