use mathlib.Core.Path.{◌∙◌}
use native.Mathlib.Omega.{arith}
use Rattle.model.specs.Scene.{vec3s}
use Rattle.animation.proofs.SourceLaws.{last-in, one-row, two-rows, four-rows}
use Rattle.animation.proofs.rows.vec3_from.Goals as goal

pub vec3_at-requires : goal.vec3_at-requires
vec3_at-requires c =
    last-in _ _ _ 3 _ c.in-Held.is c.requires

pub vec3_at-requires-in-Line : goal.vec3_at-requires-in-Line
vec3_at-requires-in-Line c =
    omega (arith, last-in _ _ _ 3 _ c.in-Line.is c.requires)

pub vec3_at-requires-in-Line-2 : goal.vec3_at-requires-in-Line-2
vec3_at-requires-in-Line-2 c =
    omega (arith, last-in _ _ _ 3 _ c.in-Line.is c.requires)

pub vec3_at-v-requires : goal.vec3_at-v-requires
vec3_at-v-requires c =
    omega (arith, last-in _ _ _ 3 _ c.in-Spline.is c.requires)

pub vec3_at-out-requires : goal.vec3_at-out-requires
vec3_at-out-requires c =
    omega (arith, last-in _ _ _ 3 _ c.in-Spline.is c.requires)

pub vec3_at-into-requires : goal.vec3_at-into-requires
vec3_at-into-requires c =
    omega (arith, last-in _ _ _ 3 _ c.in-Spline.is c.requires)

pub vec3_at-requires-in-Spline : goal.vec3_at-requires-in-Spline
vec3_at-requires-in-Spline c =
    omega (arith, last-in _ _ _ 3 _ c.in-Spline.is c.requires)

pub returns-in-Held : goal.returns-in-Held
returns-in-Held c =
    one-row vec3s 3 _ c.args.frames.now c.args.blend _ c.in-Held.is c.vec3_at.ensures

pub returns-in-Line : goal.returns-in-Line
returns-in-Line c =
    c.lerp.ensures ∙ two-rows vec3s 3 _ c.args.frames.now c.args.blend _ _ _
    c.in-Line.is c.vec3_at-in-Line.ensures c.vec3_at-in-Line-2.ensures

pub returns-in-Spline : goal.returns-in-Spline
returns-in-Spline c =
    c.cubic.ensures ∙ four-rows vec3s 3 _ c.args.frames.now c.args.blend _ _ _ _ _ _
    c.in-Spline.is c.vec3_at-v.ensures
    c.vec3_at-out.ensures c.vec3_at-in-Spline.ensures c.vec3_at-into.ensures
