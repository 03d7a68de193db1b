use mathlib.Core.Path.{sym, subst}
use Prim.Native.Nat.{ℕ, ◌≤◌}
use lib.Seq.{length-take-le}
use Rattle.refusals.proofs.Told.{turned-down}
use Rattle.graph.proofs.Answering.{refused, short, written, few}
use Rattle.graph.proofs.parents.Goals as goal

pub returns-in_err-check_tables : goal.returns-in_err-check_tables
returns-in_err-check_tables c =
    let d = turned-down _ c.in_err-check_tables.field-0.0 _ c.from_residual.ensures.1 c.in_err-check_tables.ensures in
    refused _ _ _ d.0 d.1

pub returns-then-out-n : goal.returns-then-out-n
returns-then-out-n c =
    short _ _ (sym c.in_ok-check_tables.ensures) c.if-out-n.true

pub slice_bounds-mark-end-2 : goal.slice_bounds-mark-end-2
slice_bounds-mark-end-2 c = sym (length-take-le _ _ c.if-out-n.false)

pub mark-requires : goal.mark-requires
mark-requires c =
    let f = few _ (sym c.in_ok-check_tables.ensures) in
    (f.0, subst (λ (k : ℕ). k ≤ 1024) (sym (length-take-le _ _ c.if-out-n.false)) f.1)

pub returns : goal.returns
returns c =
    written _ _ _ (sym c.in_ok-check_tables.ensures) c.if-out-n.false c.mark.ensures
