use mathlib.Core.Path.{◌≡◌}
use Prim.Native.Nat.{◌+◌, ◌*◌}
use native.Mathlib.Omega.{arith}
use Rattle.tables.proofs.Reading.{lies_whole, cut}
use Rattle.tables.proofs.places.whole.Goals as goal

pub overflow_mul-start : goal.overflow_mul-start
overflow_mul-start c =
    omega (arith, lies_whole _ _ c.args.stride c.args.i c.requires c.if-at-len.true c.if-i-len.true)

pub overflow_add-start : goal.overflow_add-start
overflow_add-start c =
    omega (arith, lies_whole _ _ c.args.stride c.args.i c.requires c.if-at-len.true c.if-i-len.true)

pub overflow_add-end : goal.overflow_add-end
overflow_add-end c =
    omega (arith, lies_whole _ _ c.args.stride c.args.i c.requires c.if-at-len.true c.if-i-len.true)

pub offset_bounds-words-start : goal.offset_bounds-words-start
offset_bounds-words-start c =
    omega (arith, lies_whole _ _ c.args.stride c.args.i c.requires c.if-at-len.true c.if-i-len.true)

pub slice_bounds-result-end : goal.slice_bounds-result-end
slice_bounds-result-end c =
    omega (arith, lies_whole _ _ c.args.stride c.args.i c.requires c.if-at-len.true c.if-i-len.true)

pub returns-then-i-len : goal.returns-then-i-len
returns-then-i-len c e =
    cut c.args.words.now (c.args.t.at + c.args.i * c.args.stride) c.args.stride

pub returns : goal.returns
returns c e = let z : 0 ≡ c.args.stride = e in absurd (omega (arith, c.requires))
