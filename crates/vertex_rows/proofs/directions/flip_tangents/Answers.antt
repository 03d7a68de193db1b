use mathlib.Core.Path.{◌≡◌, refl, ap, ◌∙◌}
use Prim.Native.Nat.{◌/◌}
use native.Mathlib.Omega.{arith}
use borrow.Author.Rules.{rules}
use lib.ListN.{length}
use Rattle.model.specs.Lists.{row}
use Rattle.model.proofs.Rowwise.{row-length}
use Rattle.vertex_rows.specs.Rows.{flipped, first_rows}
use Rattle.vertex_rows.proofs.RowLengths.{flipped-length}
use Rattle.vertex_rows.proofs.RowSteps.{next-done, each-done}
use Rattle.vertex_rows.proofs.directions.flip_tangents.Goals as goal

pub loop-k-init : goal.loop-k-init
unfolding first_rows
loop-k-init c = (omega arith, refl, refl, refl)

pub loop-k-preserved : goal.loop-k-preserved
loop-k-preserved c =
    let a = c.args in
    let l = c.loop-k in (
      omega arith,
      l.invariant.1,
      search rules,
      next-done 4 (λ _. flipped) a.tangents.now _ _ l.k c.flip_tangent.ensures l.invariant.3,
    )

pub returns : goal.returns
returns c =
    let a = c.args in
    let l = c.loop-k in
    let e : l.k ≡ length a.tangents.now / 4 = omega (arith, c.loop-k-test.false) in
    l.invariant.3 ∙ ap (first_rows 4 (λ _. flipped) a.tangents.now) e ∙ each-done 4 flipped a.tangents.now (λ i h. flipped-length (row 4 a.tangents.now i) (row-length 4 a.tangents.now i h))
