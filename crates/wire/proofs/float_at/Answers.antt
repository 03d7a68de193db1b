use mathlib.Core.Path.{sym, ap, ◌∙◌}
use native.Mathlib.Omega.{arith}
use lib.Ieee.{binary32, of_bits, div, nan}
use lib.ListN.{get_or-eq_default}
use Rattle.wire.specs.Bytes.{floats_in}
use Rattle.wire.proofs.Reading.{count, entry}
use Rattle.wire.proofs.float_at.Goals as goal

pub returns-then-i-bytes : goal.returns-then-i-bytes
returns-then-i-bytes c =
    let a = c.args in
    c.from_bits.ensures
    ∙ ap (of_bits binary32) c.word_at.ensures
    ∙ sym (entry (of_bits binary32) a.bytes.now a.i nan (omega arith))

pub returns : goal.returns
unfolding div of_bits
returns c =
    let a = c.args in
    let past = count (of_bits binary32) a.bytes.now in
    sym (get_or-eq_default (floats_in a.bytes.now) nan {n = a.i} (omega (arith, past, c.if-i-bytes.false)))
