use mathlib.Core.Path.{ap, ◌∙◌}
use Rattle.std.proofs.Common.{Ok}
use Rattle.track_entries.proofs.Handing.{left-vec3, left-quat, left-weights, left-refused, sampled-alike}
use Rattle.track_entries.proofs.floats.mesh3d_sample_floats.Goals as goal

pub returns-in-Ok-Vec3 : goal.returns-in-Ok-Vec3
returns-in-Ok-Vec3 c =
    left-vec3 _ _ _ _ (sampled-alike _ _ _ c.row_for-row.ensures _ _ _ c.sample_row.ensures) _ _
    (c.in-Ok-Vec3.is ∙ ap Ok c.in-Ok-Vec3.field-0-is) c.vec3_over.ensures

pub returns-in-Ok-Quat : goal.returns-in-Ok-Quat
returns-in-Ok-Quat c =
    left-quat _ _ _ _ (sampled-alike _ _ _ c.row_for-row.ensures _ _ _ c.sample_row.ensures) _ _
    (c.in-Ok-Quat.is ∙ ap Ok c.in-Ok-Quat.field-0-is) c.quat_over.ensures

pub returns-in-Ok-Scalar : goal.returns-in-Ok-Scalar
returns-in-Ok-Scalar c =
    left-weights _ _ _ _ (sampled-alike _ _ _ c.row_for-row.ensures _ _ _ c.sample_row.ensures) _
    (c.in-Ok-Scalar.is ∙ ap Ok c.in-Ok-Scalar.field-0-is)

pub returns-in-Err : goal.returns-in-Err
returns-in-Err c =
    rw c.refused.ensures
    (left-refused _ _ _ _ (sampled-alike _ _ _ c.row_for-row.ensures _ _ _ c.sample_row.ensures) _ c.in-Err.is)
