use mathlib.Core.Path.{sym, ◌∙◌}
use Rattle.model.specs.Calls.{stride_of}
use Rattle.track_entries.proofs.Naming.{table-draws, by_name, without-name}
use Rattle.track_entries.proofs.Handing.{no-stride}
use Rattle.track_entries.proofs.floats.mesh3d_stride_floats.Goals as goal

pub returns-then-is_unnamed : goal.returns-then-is_unnamed
returns-then-is_unnamed c =
    without-name stride_of _ _ _ c.row_for-row.ensures _ (table-draws _ _)
    (sym c.is_unnamed.ensures ∙ c.if-is_unnamed.true) _ no-stride

pub returns : goal.returns
returns c =
    by_name stride_of _ _ _ c.row_for-row.ensures _ (table-draws _ _)
    (sym c.is_unnamed.ensures ∙ c.if-is_unnamed.false)
    _ c.track_of.ensures _ c.morph_weight_stride.ensures
