use mathlib.Core.Bool.{true}
use mathlib.Core.Path.{◌∙◌, ap}
use Rattle.tracks.specs.Tracks.{table_number}
use Rattle.row_checks.specs.Bounds.{tags_known}
use Rattle.checks.specs.Drawn.{drawn, lower_of, channel_number}
use Rattle.tables.specs.Tags.{track_for}
use Rattle.checks.proofs.records.check_channel.Goals as goal

pub returns : goal.returns
unfolding channel_number
returns c floats e =
    let row = c.channel_row-row.ensures in
    let track = c.track_of.ensures ∙ ap track_for row in
    let tags = c.tags_known.ensures ∙ ap tags_known row in
    c.lower.ensures
    ∙ (λ j. lower_of ((c.check_in.ensures floats e ∙ ap (table_number floats) track) j) ((c.check.ensures ∙ ap (drawn true) tags) j))
