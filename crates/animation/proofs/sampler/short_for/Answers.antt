use mathlib.Core.Path.{sym, ap, ◌∙◌}
use mathlib.Core.Bool.{Bool, ◌&&◌}
use lib.Dec.{ltb}
use Rattle.animation.proofs.sampler.short_for.Goals as goal

pub returns-then-is_scalar : goal.returns-then-is_scalar
returns-then-is_scalar c =
    ap (λ (b : Bool). b && ltb c.args.room c.args.stride) (sym (sym c.is_scalar.ensures ∙ c.if-is_scalar.true))
