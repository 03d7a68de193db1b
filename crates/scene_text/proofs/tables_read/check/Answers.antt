use mathlib.Core.Path.{ap, ◌∙◌}
use mathlib.Core.Bool.{Bool}
use Rattle.model.specs.Lists.{pick}
use Rattle.model.specs.Refusals.{number, short_output}
use Rattle.refusals.proofs.Told.{turned-down}
use Rattle.scene_text.specs.Scanned.{is_reading, leaves_table, is_short}
use Rattle.scene_text.proofs.AnswerLaws.{first-drawn, last-drawn}
use Rattle.scene_text.proofs.tables_read.check.Goals as goal

pub returns-in_err-check_reading : goal.returns-in_err-check_reading
returns-in_err-check_reading c =
    let d = turned-down _ c.in_err-check_reading.field-0.0 _ c.from_residual.ensures.1 c.in_err-check_reading.ensures in
    first-drawn (is_reading c.args.len c.args.f) (leaves_table c.args.f) _ _ d.1 d.0

pub returns-then-are_short : goal.returns-then-are_short
returns-then-are_short c =
    let a = c.args in
    let short = c.if-are_short.ensures ∙ ap (is_short a.lent) c.lengths_from.ensures in
    ap (λ (b : Bool). pick b (number short_output) 0) short
    ∙ last-drawn (is_reading a.len a.f) (leaves_table a.f) _ c.in_ok-check_reading.ensures

pub returns : goal.returns
returns c =
    let a = c.args in
    let long = c.if-are_short.ensures ∙ ap (is_short a.lent) c.lengths_from.ensures in
    ap (λ (b : Bool). pick b (number short_output) 0) long
    ∙ last-drawn (is_reading a.len a.f) (leaves_table a.f) _ c.in_ok-check_reading.ensures
