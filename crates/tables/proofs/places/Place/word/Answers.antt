use mathlib.Core.Path.{refl}
use native.Mathlib.Omega.{arith}
use Rattle.tables.specs.Records.{word_of}
use Rattle.tables.proofs.Reading.{starts-inside, starts-past, no_word}
use Rattle.tables.proofs.places.Place.word.Goals as goal

pub overflow_mul-start : goal.overflow_mul-start
overflow_mul-start c =
    omega (arith, starts-inside _ _ c.args.self.stride c.args.self.i c.requires c.if-at-len.true c.if-i-len.true)

pub overflow_add-start : goal.overflow_add-start
overflow_add-start c =
    omega (arith, starts-inside _ _ c.args.self.stride c.args.self.i c.requires c.if-at-len.true c.if-i-len.true)

pub overflow_sub-len-then-i-len : goal.overflow_sub-len-then-i-len
overflow_sub-len-then-i-len c =
    omega (arith, starts-inside _ _ c.args.self.stride c.args.self.i c.requires c.if-at-len.true c.if-i-len.true)

pub returns-then-k-len : goal.returns-then-k-len
unfolding word_of
returns-then-k-len c = refl

pub returns-else-k-len : goal.returns-else-k-len
returns-else-k-len c =
    no_word _ c.args.self.t c.args.self.stride c.args.self.i c.args.k
    (omega (arith, starts-inside _ _ c.args.self.stride c.args.self.i c.requires c.if-at-len.true c.if-i-len.true, c.if-k-len.false))

pub returns-else-i-len : goal.returns-else-i-len
returns-else-i-len c =
    no_word _ c.args.self.t c.args.self.stride c.args.self.i c.args.k
    (omega (arith, starts-past _ _ c.args.self.stride c.args.self.i c.requires c.if-at-len.true c.if-i-len.false))

pub returns-else-at-len : goal.returns-else-at-len
returns-else-at-len c = no_word _ c.args.self.t c.args.self.stride c.args.self.i c.args.k (omega arith)
