use mathlib.Core.Path.{sym, ◌∙◌}
use mathlib.Core.Bool.{not, ◌&&◌}
use lib.Ieee.{eq, ne}
use Rattle.float.specs.F32.{one32}
use Rattle.deltas.proofs.betweens.is_valid.Goals as goal

pub returns-then-w : goal.returns-then-w
returns-then-w c =
    let f = sym c.is_finite.ensures ∙ c.if-is_finite.true in
    sym (λ j. f j && not (c.if-w.true j) && not (eq c.args.w one32))

pub returns-then-is_finite : goal.returns-then-is_finite
unfolding ne
returns-then-is_finite c =
    let f = sym c.is_finite.ensures ∙ c.if-is_finite.true in
    sym (λ j. f j && not (c.if-w.false j) && not (eq c.args.w one32))
