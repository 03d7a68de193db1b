use mathlib.Core.Path.{refl, sym, ap, ◌∙◌}
use mathlib.Core.Bool.{true, false}
use native.Mathlib.Omega.{arith}
use borrow.Author.Tests.{lt-ltb, le-ltb}
use lib.Dec.{ltb}
use Rattle.refusals.proofs.Told.{turned-down}
use Rattle.tables.specs.Decoded.{lent_of, scene_of}
use Rattle.tables.proofs.Decoding.{node-count}
use Rattle.pose.proofs.CallLaws.{pose-drawn, pose-tests, none-drawn}
use Rattle.pose.proofs.calls.check_pose.Goals as goal

pub returns-in_err-check_tables : goal.returns-in_err-check_tables
returns-in_err-check_tables c =
    let a = c.args in
    let l = lent_of a.lent in
    let d = turned-down _ c.in_err-check_tables.field-0.0 _ c.from_residual.ensures.1 c.in_err-check_tables.ensures in
    d.0 ∙ pose-drawn (scene_of l) a.time a.slots _ (omega (arith, d.0, d.1))

pub returns-then-is_nan : goal.returns-then-is_nan
returns-then-is_nan c =
    let a = c.args in
    let l = lent_of a.lent in
    sym (pose-tests (scene_of l) a.time a.slots _ true _ _ (sym c.in_ok-check_tables.ensures) (sym c.is_nan.ensures ∙ c.if-is_nan.true) refl refl)

pub keys_out_of_line-requires : goal.keys_out_of_line-requires
keys_out_of_line-requires c =
    let a = c.args in
    none-drawn (lent_of a.lent) (sym c.in_ok-check_tables.ensures)

pub returns-then-keys_out_of_line : goal.returns-then-keys_out_of_line
returns-then-keys_out_of_line c =
    let a = c.args in
    let l = lent_of a.lent in
    sym (pose-tests (scene_of l) a.time a.slots _ false true _ (sym c.in_ok-check_tables.ensures) (sym c.is_nan.ensures ∙ c.if-is_nan.false)
    (sym (c.keys_out_of_line.ensures a.lent.node_weights.now a.lent.mesh_weights.now) ∙ c.if-keys_out_of_line.true) refl)

pub returns-then-slots-graph : goal.returns-then-slots-graph
returns-then-slots-graph c =
    let a = c.args in
    let l = lent_of a.lent in
    sym (pose-tests (scene_of l) a.time a.slots _ false false true (sym c.in_ok-check_tables.ensures) (sym c.is_nan.ensures ∙ c.if-is_nan.false)
    (sym (c.keys_out_of_line.ensures a.lent.node_weights.now a.lent.mesh_weights.now) ∙ c.if-keys_out_of_line.false)
    (ap (ltb a.slots) (node-count l) ∙ lt-ltb _ _ c.if-slots-graph.true))

pub returns : goal.returns
returns c =
    let a = c.args in
    let l = lent_of a.lent in
    sym (pose-tests (scene_of l) a.time a.slots _ false false false (sym c.in_ok-check_tables.ensures) (sym c.is_nan.ensures ∙ c.if-is_nan.false)
    (sym (c.keys_out_of_line.ensures a.lent.node_weights.now a.lent.mesh_weights.now) ∙ c.if-keys_out_of_line.false)
    (ap (ltb a.slots) (node-count l) ∙ le-ltb _ _ c.if-slots-graph.false))
