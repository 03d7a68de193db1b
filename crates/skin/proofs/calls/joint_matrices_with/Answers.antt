use mathlib.Core.Path.{refl, sym, subst}
use Prim.Native.Nat.{ℕ}
use Rattle.std.proofs.Common.{Result}
use Rattle.refusals.specs.declared.Refusal.{Refusal}
use Rattle.refusals.proofs.Told.{not-none, passed-on}
use Rattle.tables.specs.Decoded.{lent_of}
use Rattle.skin.specs.Calls.{answer_of, Answered}
use Rattle.skin.proofs.Answering.{unchanged, changed}
use Rattle.skin.proofs.calls.joint_matrices_with.Goals as goal

pub returns-in_err-length : goal.returns-in_err-length
returns-in_err-length c =
    let a = c.args in
    let l = lent_of a.lent in
    let e = c.in_err-length.field-0.0 in
    subst (λ (r : Result ℕ Refusal). Answered l a.node a.places.now a.worlds.now (record { from = a.out.now; to = a.out.now }) (answer_of r))
    (sym (passed-on _ e c.from_residual.ensures.1))
    (unchanged l a.node a.places.now a.worlds.now a.out.now _ c.min-slots.ensures _ c.in_err-length.ensures (not-none e))

pub returns : goal.returns
returns c =
    let a = c.args in
    let l = lent_of a.lent in
    let r = c.node_row-row in
    changed l a.node a.places.now a.worlds.now a.out.now _ c.min-slots.ensures _ c.in_ok-length.ensures refl
    r.result r.ensures _ (c.write_palette.ensures.slice _ _)
