use mathlib.Core.Path.{refl, ap, ◌∙◌}
use Prim.Native.Nat.{◌+◌}
use native.Mathlib.Omega.{arith}
use lib.ListN.{length}
use Rattle.model.specs.Lists.{row}
use Rattle.model.specs.Vector.{Vector}
use Rattle.vertex_rows.specs.Rows.{row_changed}
use Rattle.transform.specs.Blocks.{begun, rows_from}
use Rattle.transform.proofs.Blocked.{in_block, has-row, next-from}
use borrow.Author.Rules.{rules}
use Rattle.transform.proofs.blocks.put.Goals as goal

pub loop-i-init : goal.loop-i-init
unfolding rows_from
loop-i-init c = (search rules, refl, refl)

pub put_row-requires : goal.put_row-requires
put_row-requires c =
    let l = c.loop-i in
    (c.requires.0, has-row c.args.w (c.args.k + l.i) (length l.s) (omega (arith, c.requires.0)) (omega (arith, l.invariant.1, in_block c.args.w c.args.k l.i (length c.args.s.now) (omega arith) c.requires.1)))

pub loop-i-preserved : goal.loop-i-preserved
loop-i-preserved c =
    let a = c.args in
    let l = c.loop-i in (
      search rules,
      search rules,
      next-from a.w (λ j. begun (row 3 a.d.now j)) a.k a.s.now l.s _ l.i (c.put_row.ensures ∙ ap (λ (v : Vector). row_changed a.w (begun v) (a.k + l.i) l.s) c.load3.ensures) l.invariant.2,
    )
