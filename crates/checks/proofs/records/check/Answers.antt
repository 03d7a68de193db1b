use mathlib.Core.Bool.{Bool}
use mathlib.Core.Path.{sym, ap}
use Rattle.checks.specs.Drawn.{drawn}
use Rattle.checks.proofs.records.check.Goals as goal

pub returns-then-within : goal.returns-then-within
unfolding drawn
returns-then-within c = sym (λ j. drawn (c.if-fits.true j) (c.if-within.true j))

pub returns-then-fits : goal.returns-then-fits
unfolding drawn
returns-then-fits c = sym (λ j. drawn (c.if-fits.true j) (c.if-within.false j))

pub returns : goal.returns
unfolding drawn
returns c = sym (ap (λ (b : Bool). drawn b c.args.within) c.if-fits.false)
