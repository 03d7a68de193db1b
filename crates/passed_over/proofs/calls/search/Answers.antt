use mathlib.Core.Path.{refl, ap, ◌∙◌}
use Rattle.refusals.proofs.Told.{passed-on, not-none}
use Rattle.tables.specs.Decoded.{lent_of}
use Rattle.passed_over.specs.Told.{passed_told}
use Rattle.passed_over.proofs.CallLaws.{searchable, refused, searched}
use Rattle.passed_over.proofs.calls.search.Goals as goal

pub returns-in_err-check_pose : goal.returns-in_err-check_pose
returns-in_err-check_pose c =
    let a = c.args in
    let e = c.in_err-check_pose.field-0.0 in
    ap passed_told (passed-on _ e c.from_residual.ensures.1)
    ∙ refused (lent_of a.lent) a.time _ c.in_err-check_pose.ensures a.from (not-none e)

pub first_from-requires : goal.first_from-requires
first_from-requires c =
    let a = c.args in
    searchable (lent_of a.lent) a.time _ c.in_ok-check_pose.ensures refl

pub returns : goal.returns
returns c =
    let a = c.args in
    searched (lent_of a.lent) a.time _ c.in_ok-check_pose.ensures a.from refl _ c.first_from.ensures
