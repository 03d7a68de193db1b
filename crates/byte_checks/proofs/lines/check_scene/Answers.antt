use mathlib.Core.Path.{◌≡◌, refl, sym, ◌∙◌}
use mathlib.Core.Bool.{true, false}
use Rattle.refusals.proofs.Told.{turned-down}
use Rattle.checks.specs.declared.Table.TheVariants as table
use Rattle.checks.specs.Drawn.{tables_number}
use Rattle.pose.proofs.LineLaws.{in-counts}
use Rattle.pose.proofs.CallLaws.{none-drawn}
use Rattle.lent_bytes.specs.Bytes.{lent_of_bytes}
use Rattle.byte_checks.proofs.SceneLaws.{scene-drawn, scene-tests}
use Rattle.byte_checks.proofs.TableThere.{all_there}
use Rattle.byte_checks.proofs.lines.check_scene.Goals as goal

pub returns-in_err-check_tables : goal.returns-in_err-check_tables
returns-in_err-check_tables c =
    let a = c.args in
    let l = lent_of_bytes a.lent in
    let d = turned-down _ c.in_err-check_tables.field-0.0 _ c.from_residual.ensures.1 c.in_err-check_tables.ensures in
    scene-drawn l a.time _ d.0 d.1

pub returns-then-is_nan : goal.returns-then-is_nan
returns-then-is_nan c =
    let a = c.args in
    let l = lent_of_bytes a.lent in
    let none : tables_number l ≡ 0 = sym c.in_ok-check_tables.ensures in
    scene-tests l a.time true _ none (sym c.is_nan.ensures ∙ c.if-is_nan.true) refl

pub some_out_of_line-requires : goal.some_out_of_line-requires
some_out_of_line-requires c =
    let a = c.args in
    let l = lent_of_bytes a.lent in
    let none : tables_number l ≡ 0 = sym c.in_ok-check_tables.ensures in
    (all_there _ _ _ _ a.lent.header none table.Channels, none-drawn l none)

pub returns-then-some_out_of_line : goal.returns-then-some_out_of_line
returns-then-some_out_of_line c =
    let a = c.args in
    let l = lent_of_bytes a.lent in
    let none : tables_number l ≡ 0 = sym c.in_ok-check_tables.ensures in
    scene-tests l a.time false true none (sym c.is_nan.ensures ∙ c.if-is_nan.false)
    (in-counts l ∙ sym c.some_out_of_line.ensures ∙ c.if-some_out_of_line.true)

pub returns : goal.returns
returns c =
    let a = c.args in
    let l = lent_of_bytes a.lent in
    let none : tables_number l ≡ 0 = sym c.in_ok-check_tables.ensures in
    scene-tests l a.time false false none (sym c.is_nan.ensures ∙ c.if-is_nan.false)
    (in-counts l ∙ sym c.some_out_of_line.ensures ∙ c.if-some_out_of_line.false)
