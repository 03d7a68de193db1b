use mathlib.Core.Path.{◌≡◌, refl, sym, ◌∙◌}
use lib.Ieee.{binary32, of_bits}
use Rattle.wire.proofs.Reading.{count}
use Rattle.checks.specs.Drawn.{sizes_for, sizes_of}
use Rattle.lent_bytes.specs.Bytes.{lent_of_bytes}
use Rattle.byte_checks.proofs.numbers.check_tables.Goals as goal

pub returns : goal.returns
returns c =
    let a = c.args in
    let l = lent_of_bytes a.lent in
    let sized : c.sizes_for-s.result ≡ sizes_of l
    = c.sizes_for-s.ensures
    ∙ sym (λ j. sizes_for (count (λ w. w) a.lent.words.now j) (count (of_bits binary32) a.lent.floats.now j)
    (count (of_bits binary32) a.lent.node_weights.now j) (count (of_bits binary32) a.lent.mesh_weights.now j) a.lent.header) in
    c.check_all.ensures l refl refl sized
