use mathlib.Core.Path.{sym, ap}
use mathlib.Core.Bool.{Bool}
use Rattle.float.specs.F32.{◌⊘◌, one32}
use Rattle.model.specs.Lists.{pick}
use Rattle.model.specs.Transform.{length_factor}
use Rattle.scene.proofs.transforms.length_factor.Goals as goal

pub returns-then-s : goal.returns-then-s
unfolding length_factor
returns-then-s c = sym (ap (λ (b : Bool). pick b (one32 ⊘ c.args.s) one32) c.if-s.true)

pub returns : goal.returns
unfolding length_factor
returns c = sym (ap (λ (b : Bool). pick b (one32 ⊘ c.args.s) one32) c.if-s.false)
