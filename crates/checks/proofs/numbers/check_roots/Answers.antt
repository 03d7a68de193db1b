use mathlib.Core.Bool.{Bool}
use mathlib.Core.Path.{◌∙◌, ap}
use lib.Dec.{leb}
use Rattle.checks.specs.Drawn.{drawn}
use Rattle.checks.proofs.numbers.check_roots.Goals as goal

pub returns : goal.returns
returns c = c.check.ensures ∙ ap (λ (b : Bool). drawn b (leb c.args.roots.count 1024)) c.fits.ensures
