use mathlib.Core.Path.{sym, ◌∙◌}
use borrow.Author.Rules.{rules}
use lib.Seq.{length-take-le}
use Rattle.track_entries.proofs.Delivering.{as-handed, not-handed}
use Rattle.track_entries.proofs.bytes.mesh3d_sample.Goals as goal

pub slice_bounds-sample_over-end : goal.slice_bounds-sample_over-end
slice_bounds-sample_over-end c = sym (length-take-le _ _ (search rules))

pub sample_over-requires : goal.sample_over-requires
sample_over-requires c = length-take-le _ _ (search rules) ∙ c.min-most.ensures

pub returns-then-is_unnamed : goal.returns-then-is_unnamed
returns-then-is_unnamed c =
    let a = c.args in
    rw c.refused.ensures
    (not-handed a.table.now _ _ c.row_for-row.ensures _ a.room.now a.value.now a.out.now
    (sym c.is_unnamed.ensures ∙ c.if-is_unnamed.true))

pub returns : goal.returns
returns c =
    let a = c.args in
    as-handed a.table.now _ _ c.row_for-row.ensures _ a.room.now a.value.now a.out.now
    (sym c.is_unnamed.ensures ∙ c.if-is_unnamed.false) _ c.track_of-t.ensures
    c.from_bits-time.result c.from_bits-time.ensures _ _ _ _ c.sample_over.ensures
