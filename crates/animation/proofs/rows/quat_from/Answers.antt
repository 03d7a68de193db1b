use mathlib.Core.Path.{◌∙◌}
use native.Mathlib.Omega.{arith}
use Rattle.model.specs.Scene.{quats}
use Rattle.animation.proofs.SourceLaws.{last-in, one-row, two-rows, four-rows}
use Rattle.animation.proofs.rows.quat_from.Goals as goal

pub quat_at-requires : goal.quat_at-requires
quat_at-requires c =
    last-in _ _ _ 4 _ c.in-Held.is c.requires

pub quat_at-requires-in-Line : goal.quat_at-requires-in-Line
quat_at-requires-in-Line c =
    omega (arith, last-in _ _ _ 4 _ c.in-Line.is c.requires)

pub quat_at-requires-in-Line-2 : goal.quat_at-requires-in-Line-2
quat_at-requires-in-Line-2 c =
    omega (arith, last-in _ _ _ 4 _ c.in-Line.is c.requires)

pub quat_at-v-requires : goal.quat_at-v-requires
quat_at-v-requires c =
    omega (arith, last-in _ _ _ 4 _ c.in-Spline.is c.requires)

pub quat_at-out-requires : goal.quat_at-out-requires
quat_at-out-requires c =
    omega (arith, last-in _ _ _ 4 _ c.in-Spline.is c.requires)

pub quat_at-into-requires : goal.quat_at-into-requires
quat_at-into-requires c =
    omega (arith, last-in _ _ _ 4 _ c.in-Spline.is c.requires)

pub quat_at-requires-in-Spline : goal.quat_at-requires-in-Spline
quat_at-requires-in-Spline c =
    omega (arith, last-in _ _ _ 4 _ c.in-Spline.is c.requires)

pub returns-in-Held : goal.returns-in-Held
returns-in-Held c =
    one-row quats 4 _ c.args.frames.now c.args.blend _ c.in-Held.is c.quat_at.ensures

pub returns-in-Line : goal.returns-in-Line
returns-in-Line c =
    c.slerp.ensures ∙ two-rows quats 4 _ c.args.frames.now c.args.blend _ _ _
    c.in-Line.is c.quat_at-in-Line.ensures c.quat_at-in-Line-2.ensures

pub returns-in-Spline : goal.returns-in-Spline
returns-in-Spline c =
    c.cubic.ensures ∙ four-rows quats 4 _ c.args.frames.now c.args.blend _ _ _ _ _ _
    c.in-Spline.is c.quat_at-v.ensures
    c.quat_at-out.ensures c.quat_at-in-Spline.ensures c.quat_at-into.ensures
