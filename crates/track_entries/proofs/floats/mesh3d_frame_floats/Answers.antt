use mathlib.Core.Path.{sym, ◌∙◌}
use Rattle.refusals.specs.Drawn.{number_drawn, count_of}
use Rattle.outputs.proofs.Copying.{copies-out}
use Rattle.track_entries.specs.Tracks.{Framed, row_for}
use Rattle.track_entries.proofs.Handing.{no-frame, framed}
use Rattle.track_entries.proofs.floats.mesh3d_frame_floats.Goals as goal

pub returns-then-is_unnamed : goal.returns-then-is_unnamed
returns-then-is_unnamed c =
    rw c.refused.ensures
    (no-frame _ _ _ c.row_for-row.ensures _ _ _ (sym c.is_unnamed.ensures ∙ c.if-is_unnamed.true))

pub returns-in-Ok : goal.returns-in-Ok
returns-in-Ok c =
    framed _ _ _ c.row_for-row.ensures _ _ _ (sym c.is_unnamed.ensures ∙ c.if-is_unnamed.false)
    _ c.track_of-t.ensures _ c.is_marked-rows.ensures _ _ _ _ _ c.check_frame-drawn.ensures c.frame_in.ensures
    (copies-out _ _ _ _ _ c.in-Ok.ensures)

pub returns-in-Err : goal.returns-in-Err
returns-in-Err c =
    rw c.refused-in-Err.ensures
    (framed _ _ _ c.row_for-row.ensures _ _ _ (sym c.is_unnamed.ensures ∙ c.if-is_unnamed.false)
    _ c.track_of-t.ensures _ c.is_marked-rows.ensures _ _ _ _ _ c.check_frame-drawn.ensures c.frame_in.ensures
    (copies-out _ _ _ _ _ c.in-Err.ensures))
