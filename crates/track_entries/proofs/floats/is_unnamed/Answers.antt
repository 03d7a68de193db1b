use mathlib.Core.Path.{sym, ◌∙◌}
use Rattle.track_entries.proofs.Naming.{is-named, not_named}
use Rattle.track_entries.proofs.floats.is_unnamed.Goals as goal

pub returns-then-tags_known : goal.returns-then-tags_known
returns-then-tags_known c =
    let a = c.args in
    is-named a.len a.row (sym c.tags_known.ensures ∙ c.if-tags_known.true)

pub returns : goal.returns
returns c =
    let a = c.args in
    not_named a.len a.row (sym c.tags_known.ensures ∙ c.if-tags_known.false)
    _ c.track_of.ensures _ c.lies_in.ensures
