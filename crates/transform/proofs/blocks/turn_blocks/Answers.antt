use mathlib.Core.Path.{refl}
use native.Mathlib.Omega.{arith}
use Rattle.scene.specs.Values.{mat3}
use Rattle.vertex_rows.specs.Rows.{first_rows}
use Rattle.transform.specs.Blocks.{xyz_turned}
use Rattle.transform.proofs.Blocked.{next-block}
use borrow.Author.Rules.{rules}
use Rattle.transform.proofs.blocks.turn_blocks.Goals as goal

pub loop-b-init : goal.loop-b-init
unfolding first_rows
loop-b-init c = (omega arith, refl, refl, refl)

pub loop-b-preserved : goal.loop-b-preserved
loop-b-preserved c =
    let a = c.args in
    let l = c.loop-b in (
      omega arith,
      l.invariant.1,
      search rules,
      next-block a.w (λ _. xyz_turned (mat3 a.l)) a.s.now l.s _ l.b c.turn_block.ensures l.invariant.3,
    )
