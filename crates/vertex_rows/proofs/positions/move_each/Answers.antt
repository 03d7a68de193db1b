use Rattle.std.proofs.Common.{rules, refl, arith, ap, ◌∙◌, ◌≡◌, ◌/◌, ◌<◌, ℕ, length}
use Rattle.model.specs.Lists.{row}
use Rattle.vertex_rows.specs.Rows.{first_rows}
use Rattle.vertex_rows.proofs.RowSteps.{row-changed, next-done, each-done}
use Rattle.vertex_rows.proofs.positions.move_each.Goals as goal

pub loop-k-init : goal.loop-k-init
unfolding first_rows
loop-k-init g c = (refl, λ h m. refl)

pub loop-k-preserved : goal.loop-k-preserved
loop-k-preserved g c =
    let l = c.loop-k in
    let inside : l.k < length l.positions / 3 = omega (arith, ap (λ (n : ℕ). n / 3) l.invariant.0, c.loop-k-test.true) in (
      search rules,
      λ h m. next-done 3 (λ _. h) c.args.positions.now l.positions _ l.k
          (row-changed 3 h l.k l.positions _ _ _ inside c.store3.ensures (m.made _ _ c.f.ensures) c.load3-p.ensures) (l.invariant.1 h m),
    )

pub returns : goal.returns
returns g c h m =
    let l = c.loop-k in
    let s = c.args.positions.now in
    let e : l.k ≡ length s / 3 = omega arith in
    l.invariant.1 h m ∙ ap (first_rows 3 (λ _. h) s) e ∙ each-done 3 h s (λ i b. m.three (row 3 s i))
