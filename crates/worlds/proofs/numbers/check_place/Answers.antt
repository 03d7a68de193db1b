use mathlib.Core.Path.{sym, ◌∙◌}
use mathlib.Core.Bool.{true, false}
use Rattle.refusals.proofs.Told.{turned-down}
use Rattle.worlds.proofs.Answering.{drawn-first, by-room}
use Rattle.worlds.proofs.numbers.check_place.Goals as goal

pub returns-in_err-check_tables : goal.returns-in_err-check_tables
returns-in_err-check_tables c =
    let d = turned-down _ c.in_err-check_tables.field-0.0 _ c.from_residual.ensures.1 c.in_err-check_tables.ensures in
    drawn-first _ _ _ d.0 d.1

pub returns-then-is_short : goal.returns-then-is_short
returns-then-is_short c = by-room _ _ true (sym c.in_ok-check_tables.ensures) (sym c.is_short.ensures ∙ c.if-is_short.true)

pub returns : goal.returns
returns c = by-room _ _ false (sym c.in_ok-check_tables.ensures) (sym c.is_short.ensures ∙ c.if-is_short.false)
