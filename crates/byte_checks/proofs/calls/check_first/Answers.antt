use mathlib.Core.Path.{◌≡◌, sym, ap, ◌∙◌}
use mathlib.Core.Bool.{Bool, true, false}
use Rattle.refusals.specs.declared.Refusal.TheVariants.{NoSuchNode}
use Rattle.model.specs.Lists.{pick, is_some}
use Rattle.model.specs.Scene.{mesh_at}
use Rattle.worlds.specs.Rooms.{scratch_in}
use Rattle.wire.specs.Bytes.{floats_in}
use Rattle.tables.specs.Decoded.{scene_of}
use Rattle.checks.specs.declared.Table.TheVariants as table
use Rattle.lent_bytes.specs.Bytes.{lent_of_bytes}
use Rattle.byte_checks.specs.Numbers.{early_in}
use Rattle.byte_checks.proofs.TableThere.{all_there}
use Rattle.byte_checks.proofs.CallLaws.{early-none}
use Rattle.byte_checks.proofs.JudgedLaws.{passed-on, after, none, settled}
use Rattle.byte_checks.proofs.calls.check_first.Goals as goal

pub returns-in_err-check_early : goal.returns-in_err-check_early
returns-in_err-check_early g c = passed-on _ _ _ _ _ _ c.from_residual.ensures.1 c.in_err-check_early.ensures

pub has_mesh-requires : goal.has_mesh-requires
has_mesh-requires g c =
    let a = c.args in
    let l = lent_of_bytes a.lent in
    let early : early_in 0 l a.time (scratch_in a.space) ≡ 0 = (settled _ _ _ _ c.in_ok-check_early.ensures).0 in
    all_there _ _ _ _ a.lent.header (early-none l (scratch_in a.space) 0 a.time early) table.Nodes

pub returns-then-has_mesh : goal.returns-then-has_mesh
returns-then-has_mesh g c =
    let a = c.args in
    let meshed : is_some (mesh_at (scene_of (lent_of_bytes a.lent)) a.node) ≡ true
    = sym (c.has_mesh.ensures.told (floats_in a.lent.floats.now) (floats_in a.lent.node_weights.now)
    (floats_in a.lent.mesh_weights.now)) ∙ c.if-has_mesh.true in
    let s = settled _ _ _ _ c.in_ok-check_early.ensures in
    none _ _ _ s.0 (ap (λ (b : Bool). pick b 0 7) meshed) _ s.1 _

pub returns : goal.returns
returns g c =
    let a = c.args in
    let meshed : is_some (mesh_at (scene_of (lent_of_bytes a.lent)) a.node) ≡ false
    = sym (c.has_mesh.ensures.told (floats_in a.lent.floats.now) (floats_in a.lent.node_weights.now)
    (floats_in a.lent.mesh_weights.now)) ∙ c.if-has_mesh.false in
    let s = settled _ _ _ _ c.in_ok-check_early.ensures in
    after _ _ _ s.0 _ _ s.1 NoSuchNode (sym (ap (λ (b : Bool). pick b 0 7) meshed)) c.from.ensures
