use mathlib.Core.Path.{refl, sym, ◌∙◌}
use mathlib.Core.Bool.{true, false}
use Rattle.refusals.proofs.Told.{turned-down}
use Rattle.pose.proofs.CallLaws.{none-drawn}
use Rattle.bake_stages.proofs.Drawing.{drawn-first, early-tests, early-short}
use Rattle.bake_stages.proofs.numbers.check_early.Goals as goal

pub returns-in_err-check_tables : goal.returns-in_err-check_tables
returns-in_err-check_tables c =
    let d = turned-down _ c.in_err-check_tables.field-0.0 _ c.from_residual.ensures.1 c.in_err-check_tables.ensures in
    drawn-first _ _ _ _ d.0 d.1

pub returns-then-is_nan : goal.returns-then-is_nan
returns-then-is_nan c =
    early-tests _ _ _ true _ _ (sym c.in_ok-check_tables.ensures) (sym c.is_nan.ensures ∙ c.if-is_nan.true) refl refl

pub keys_out_of_line-requires : goal.keys_out_of_line-requires
keys_out_of_line-requires c = none-drawn _ (sym c.in_ok-check_tables.ensures)

pub returns-then-keys_out_of_line : goal.returns-then-keys_out_of_line
returns-then-keys_out_of_line c =
    early-tests _ _ _ false true _ (sym c.in_ok-check_tables.ensures)
    (sym c.is_nan.ensures ∙ c.if-is_nan.false)
    (sym (c.keys_out_of_line.ensures _ _) ∙ c.if-keys_out_of_line.true) refl

pub returns-then-is_short : goal.returns-then-is_short
returns-then-is_short c =
    early-short _ _ _ false false true (sym c.in_ok-check_tables.ensures)
    (sym c.is_nan.ensures ∙ c.if-is_nan.false)
    (sym (c.keys_out_of_line.ensures _ _) ∙ c.if-keys_out_of_line.false)
    (sym c.is_short.ensures ∙ c.if-is_short.true)

pub returns : goal.returns
returns c =
    early-short _ _ _ false false false (sym c.in_ok-check_tables.ensures)
    (sym c.is_nan.ensures ∙ c.if-is_nan.false)
    (sym (c.keys_out_of_line.ensures _ _) ∙ c.if-keys_out_of_line.false)
    (sym c.is_short.ensures ∙ c.if-is_short.false)
