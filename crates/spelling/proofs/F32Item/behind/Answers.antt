use mathlib.Core.Path.{sym, ◌∙◌}
use mathlib.Core.List.{map}
use native.Mathlib.Omega.{arith}
use lib.Ieee.{binary32, to_bits}
use lib.ListN.{length-map}
use Rattle.spelling.proofs.Pushing.{no-floats, some-floats}
use Rattle.spelling.proofs.F32Item.behind.Goals as goal

pub returns-then-count-eq0 : goal.returns-then-count-eq0
returns-then-count-eq0 c =
    let items = c.args.items.now in
    no-floats (map (to_bits binary32) items) _ (length-map items (to_bits binary32) ∙ c.if-count-eq0.true)

pub returns : goal.returns
returns c =
    let items = c.args.items.now in
    let long = length-map items (to_bits binary32) in
    some-floats (map (to_bits binary32) items) _ (λ z. c.if-count-eq0.false (sym long ∙ z))
    (omega (arith, long, c.saturating_mul.ensures, c.saturating_add.ensures, c.min.ensures))
