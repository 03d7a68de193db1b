use mathlib.Core.Path.{◌≡◌, sym, ◌∙◌}
use Rattle.refusals.proofs.Told.{not-none}
use Rattle.worlds.specs.Rooms.{scratch_in}
use Rattle.checks.specs.declared.Table.TheVariants as table
use Rattle.lent_bytes.specs.Bytes.{lent_of_bytes}
use Rattle.byte_checks.specs.Scene.{scene_number}
use Rattle.byte_checks.proofs.SceneLaws.{scene-none}
use Rattle.byte_checks.proofs.TableThere.{all_there}
use Rattle.byte_checks.proofs.CallLaws.{early-drawn, early-rooms}
use Rattle.byte_checks.proofs.JudgedLaws.{before, as-drawn}
use Rattle.byte_checks.proofs.calls.check_early.Goals as goal

pub returns-in_err-check_scene : goal.returns-in_err-check_scene
returns-in_err-check_scene g c =
    let a = c.args in
    let r = c.in_err-check_scene.field-0.0 in
    before _ _ _ _ _ r
    (early-drawn (lent_of_bytes a.lent) (scratch_in a.space) 0 a.time _ c.in_err-check_scene.ensures (not-none r))
    c.from_residual.ensures.1

pub check_room-requires : goal.check_room-requires
check_room-requires g c =
    let a = c.args in
    let l = lent_of_bytes a.lent in
    let none : scene_number l a.time ≡ 0 = sym c.in_ok-check_scene.ensures in
    all_there _ _ _ _ a.lent.header (scene-none l a.time none) table.Nodes

pub returns-in_err-check_room : goal.returns-in_err-check_room
returns-in_err-check_room g c =
    let a = c.args in
    let r = c.in_err-check_room.field-0.0 in
    before _ _ _ _ _ r
    (c.in_err-check_room.ensures
    ∙ early-rooms (lent_of_bytes a.lent) (scratch_in a.space) 0 a.time (sym c.in_ok-check_scene.ensures))
    c.from_residual-in_err-check_room.ensures.1

pub returns : goal.returns
returns g c =
    let a = c.args in
    as-drawn _ _
    (sym
    (c.in_ok-check_room.ensures
    ∙ early-rooms (lent_of_bytes a.lent) (scratch_in a.space) 0 a.time (sym c.in_ok-check_scene.ensures)))
    a.drawn
