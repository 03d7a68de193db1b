use mathlib.Core.Path.{sym, ap, ◌∙◌}
use mathlib.Core.Option.{Option}
use Rattle.model.specs.Lists.{or_else}
use Rattle.model.specs.Vector.{Vector}
use Rattle.scene.specs.Values.{vec3}
use Rattle.scene.proofs.Lengths.{has-length, not_finite, not-above}
use Rattle.transform.proofs.blocks.unit_or.Goals as goal

pub returns-then-len : goal.returns-then-len
returns-then-len c =
    let a = c.args in
    c.divided.ensures ∙ ap (λ (o : Option Vector). or_else o (vec3 a.v)) (has-length (vec3 a.d) a.len c.requires (sym c.is_finite.ensures ∙ c.if-is_finite.true) c.if-len.true)

pub returns-else-len : goal.returns-else-len
returns-else-len c =
    let a = c.args in
    ap (λ (o : Option Vector). or_else o (vec3 a.v)) (not-above (vec3 a.d) a.len c.requires c.if-len.false)

pub returns-else-is_finite : goal.returns-else-is_finite
returns-else-is_finite c =
    let a = c.args in
    ap (λ (o : Option Vector). or_else o (vec3 a.v)) (not_finite (vec3 a.d) a.len c.requires (sym c.is_finite.ensures ∙ c.if-is_finite.false))
