use mathlib.Core.Path.{sym, ◌∙◌}
use Rattle.scene.specs.Values.{vec3}
use Rattle.scene.proofs.Lengths.{is-divided, not-by-zero, not-by-one, not-by-infinity}
use Rattle.scene.proofs.matrices.divide.Goals as goal

pub returns-then-is_finite : goal.returns-then-is_finite
returns-then-is_finite c = is-divided (vec3 c.args.v) c.args.w c.if-w.true c.if-w-2.true (sym c.is_finite.ensures ∙ c.if-is_finite.true)

pub returns-else-is_finite : goal.returns-else-is_finite
returns-else-is_finite c = not-by-infinity (vec3 c.args.v) c.args.w (sym c.is_finite.ensures ∙ c.if-is_finite.false)

pub returns-else-w-2 : goal.returns-else-w-2
returns-else-w-2 c = not-by-one (vec3 c.args.v) c.args.w c.if-w-2.false

pub returns-else-w : goal.returns-else-w
returns-else-w c = not-by-zero (vec3 c.args.v) c.args.w c.if-w.false
