use mathlib.Core.Path.{◌≡◌, refl, sym, ap, ◌∙◌, subst}
use Prim.Native.Nat.{ℕ, ◌+◌, ◌-◌}
use mathlib.Core.List.{List}
use native.Mathlib.Omega.{arith}
use lib.ListN.{length, get_or, set, drop, length-set}
use lib.Seq.{set_out}
use Rattle.graph.specs.Stack.{Rooted}
use Rattle.graph.proofs.Taking.{no-root, one-root}
use Rattle.graph.proofs.walk.list_roots.Goals as goal
use Rattle.graph.proofs.walk.list_roots.Goals.{then-k-marks, else-k-marks}

pub loop-i-init : goal.loop-i-init
loop-i-init c = (omega arith, omega arith, no-root c.args.roots.now _ _, refl, refl)

pub overflow_cast-k : goal.overflow_cast-k
overflow_cast-k c = omega (arith, c.type_inv.roots (c.loop-i.i - 1))

pub loop-i-preserved : goal.loop-i-preserved
loop-i-preserved c =
    let l = c.loop-i in
    let x = get_or c.args.roots.now (l.i - 1) 0 in
    let e : c.if-k-marks.marks ≡ set l.marks x 1 = elim c.if-k-marks.branch [
      | then-k-marks w ↦ w.marks-is
      | else-k-marks w ↦ w.marks-is ∙ sym (set_out l.marks x 1 w.if-k-marks.false)
    ] in (
      omega arith,
      omega arith,
      subst (λ (codes : List ℕ). Rooted (drop (l.i - 1) c.args.roots.now) c.args.marks.now (set l.ids l.top x) (l.top + 1) codes) (sym e)
          (one-root c.args.roots.now c.args.marks.now l.i l.ids l.top l.marks c.loop-i-test.true l.invariant.0 (omega (arith, c.requires)) l.invariant.2),
      length-set l.ids l.top x ∙ l.invariant.3,
      ap length e ∙ length-set l.marks x 1 ∙ l.invariant.4,
    )

pub returns : goal.returns
returns c =
    let s = c.args in
    let l = c.loop-i in
    let z : l.i ≡ 0 = omega arith in
    subst (λ (k : ℕ). Rooted (drop k s.roots.now) s.marks.now l.ids l.top l.marks) z l.invariant.2
