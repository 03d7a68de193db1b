use mathlib.Core.Path.{refl}
use native.Mathlib.Omega.{arith}
use Rattle.scene.specs.Values.{mat3}
use Rattle.transform.specs.Blocks.{xyz_turned, rows_from}
use Rattle.transform.proofs.Blocked.{next-from}
use borrow.Author.Rules.{rules}
use Rattle.transform.proofs.blocks.turn_rest.Goals as goal

pub loop-i-init : goal.loop-i-init
unfolding rows_from
loop-i-init c = (omega arith, refl, refl, refl, refl)

pub loop-i-preserved : goal.loop-i-preserved
loop-i-preserved c =
    let a = c.args in
    let l = c.loop-i in (
      omega arith,
      l.invariant.1,
      l.invariant.2,
      search rules,
      next-from a.w (λ _. xyz_turned (mat3 a.l)) _ a.s.now l.s _ l.i c.turn_row.ensures l.invariant.4,
    )
