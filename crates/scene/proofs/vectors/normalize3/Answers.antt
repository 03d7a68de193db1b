use mathlib.Core.Path.{sym, ◌∙◌}
use Rattle.scene.specs.Values.{vec3}
use Rattle.scene.proofs.Lengths.{has-length, not_finite, not-above}
use Rattle.scene.proofs.vectors.normalize3.Goals as goal

pub returns-then-len : goal.returns-then-len
returns-then-len c = has-length (vec3 c.args.v) _ c.vec3_len-len.ensures (sym c.is_finite.ensures ∙ c.if-is_finite.true) c.if-len.true

pub returns-else-len : goal.returns-else-len
returns-else-len c = not-above (vec3 c.args.v) _ c.vec3_len-len.ensures c.if-len.false

pub returns-else-is_finite : goal.returns-else-is_finite
returns-else-is_finite c = not_finite (vec3 c.args.v) _ c.vec3_len-len.ensures (sym c.is_finite.ensures ∙ c.if-is_finite.false)
