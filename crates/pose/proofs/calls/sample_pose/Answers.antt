use mathlib.Core.Path.{refl, ap, ◌∙◌}
use Rattle.refusals.proofs.Told.{turned-down}
use Rattle.model.specs.Refusals.{pose_number}
use Rattle.tables.specs.Decoded.{lent_of, scene_of}
use Rattle.checks.specs.Drawn.{tables_number}
use Rattle.pose.proofs.CallLaws.{none-drawn, few-channels, all-in-line, refused, accepted, posed}
use Rattle.pose.proofs.calls.sample_pose.Goals as goal

pub returns-in_err-check_pose : goal.returns-in_err-check_pose
returns-in_err-check_pose c =
    let a = c.args in
    let l = lent_of a.lent in
    let e = c.in_err-check_pose.ensures ∙ ap (pose_number (tables_number l) (scene_of l) a.time) c.slots_in-space.ensures in
    let d = turned-down _ c.in_err-check_pose.field-0.0 _ c.from_residual.ensures.1 e in
    refused l a.time a.marks.now a.slots.now _ d.0 d.1

pub pose_all-requires : goal.pose_all-requires
pose_all-requires c =
    let a = c.args in
    let l = lent_of a.lent in
    let e = c.in_ok-check_pose.ensures ∙ ap (pose_number (tables_number l) (scene_of l) a.time) c.slots_in-space.ensures in
    let r = accepted l a.time a.marks.now a.slots.now _ e refl in
    (none-drawn l r.0, r.1, all-in-line l r.2, r.3, few-channels l r.0)

pub returns : goal.returns
returns c =
    let a = c.args in
    let l = lent_of a.lent in
    let e = c.in_ok-check_pose.ensures ∙ ap (pose_number (tables_number l) (scene_of l) a.time) c.slots_in-space.ensures in
    posed l a.time a.marks.now a.slots.now _ e refl _ _ c.pose_all.ensures.0 c.pose_all.ensures.1
