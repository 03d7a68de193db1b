use mathlib.Core.Path.{◌≡◌, sym, ◌∙◌}
use Rattle.refusals.proofs.Told.{not-none}
use Rattle.worlds.specs.Rooms.{scratch_in}
use Rattle.checks.specs.declared.Table.TheVariants as table
use Rattle.checks.specs.Drawn.{tables_number}
use Rattle.lent_bytes.specs.Bytes.{lent_of_bytes}
use Rattle.byte_checks.proofs.TableThere.{all_there}
use Rattle.byte_checks.proofs.CallLaws.{place-drawn, place-rooms}
use Rattle.byte_checks.proofs.JudgedLaws.{before, as-drawn}
use Rattle.byte_checks.proofs.calls.check_place.Goals as goal

pub returns-in_err-check_tables : goal.returns-in_err-check_tables
returns-in_err-check_tables g c =
    let a = c.args in
    let r = c.in_err-check_tables.field-0.0 in
    before _ _ _ _ _ r
    (place-drawn (lent_of_bytes a.lent) (scratch_in a.space) 0 _ c.in_err-check_tables.ensures (not-none r))
    c.from_residual.ensures.1

pub check_room-requires : goal.check_room-requires
check_room-requires g c =
    let a = c.args in
    let none : tables_number (lent_of_bytes a.lent) ≡ 0 = sym c.in_ok-check_tables.ensures in
    all_there _ _ _ _ a.lent.header none table.Nodes

pub returns-in_err-check_room : goal.returns-in_err-check_room
returns-in_err-check_room g c =
    let a = c.args in
    let r = c.in_err-check_room.field-0.0 in
    before _ _ _ _ _ r
    (c.in_err-check_room.ensures
    ∙ place-rooms (lent_of_bytes a.lent) (scratch_in a.space) 0 (sym c.in_ok-check_tables.ensures))
    c.from_residual-in_err-check_room.ensures.1

pub returns : goal.returns
returns g c =
    let a = c.args in
    as-drawn _ _
    (sym
    (c.in_ok-check_room.ensures
    ∙ place-rooms (lent_of_bytes a.lent) (scratch_in a.space) 0 (sym c.in_ok-check_tables.ensures)))
    a.drawn
