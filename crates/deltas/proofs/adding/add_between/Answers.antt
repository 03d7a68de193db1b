-- The first k floats are done.
use mathlib.Core.Path.{◌≡◌, refl, sym, ap, ◌∙◌}
use Prim.Native.Nat.{ℕ, ◌*◌, ◌/◌}
use native.Mathlib.Omega.{arith}
use borrow.Author.Rules.{rules}
use lib.Ieee.{nan}
use lib.ListN.{length, get_or, set}
use Rattle.float.specs.F32.{◌⊕◌, ◌⊖◌, ◌⊗◌}
use Rattle.deltas.proofs.Floatwise.{done_to, none_done, step}
use Rattle.deltas.proofs.AddLaws.{mixed_float, mixed-rows}
use Rattle.deltas.proofs.adding.add_between.Goals as goal

pub loop-k-init : goal.loop-k-init
loop-k-init c = (omega arith, refl, sym (none_done _ _ _))

pub loop-k-preserved : goal.loop-k-preserved
loop-k-preserved c =
    let a = c.args in
    let l = c.loop-k in
    let f = mixed_float a.t a.low.now (length a.low.now / 3 * 3) a.high.now (length a.high.now / 3 * 3) in
    let low = c.float_or_zero-a.ensures in
    let high = c.float_or_zero-b.ensures in (
      omega arith,
      search rules,
      (λ j. set l.out l.k (get_or l.out l.k nan ⊕ (low j ⊕ a.t ⊗ (high j ⊖ low j)))) ∙ step f nan a.out.now l.out l.k l.invariant.2 (search rules),
    )

pub returns : goal.returns
returns c =
    let a = c.args in
    let l = c.loop-k in
    let f = mixed_float a.t a.low.now (length a.low.now / 3 * 3) a.high.now (length a.high.now / 3 * 3) in
    let e : l.k ≡ c.min-n.result * 3 = omega arith in
    l.invariant.2
    ∙ ap (done_to f nan a.out.now) (e ∙ ap (λ (m : ℕ). m * 3) c.min-n.ensures)
    ∙ mixed-rows a.t a.out.now a.low.now a.high.now a.count
