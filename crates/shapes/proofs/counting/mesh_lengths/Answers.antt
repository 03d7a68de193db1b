use mathlib.Core.Path.{sym, ap, ◌∙◌, subst}
use native.Mathlib.Omega.{arith}
use Rattle.shapes.specs.declared.Lengths.{Lengths}
use Rattle.shapes.specs.Rest.{row_lengths, plus_lengths, AtMost}
use Rattle.shapes.proofs.Sums.{row-at-most, small, sums-small, next-sum, no-sum}
use Rattle.shapes.proofs.counting.mesh_lengths.Goals as goal

pub loop-k-init : goal.loop-k-init
loop-k-init c = let a = c.args in (c.none-total.ensures ∙ no-sum a.words.now a.table a.part, omega arith)

pub plus-total-requires : goal.plus-total-requires
plus-total-requires c =
    let a = c.args in
    let i = c.loop-k.invariant in
    let t = c.loop-k-test.true in (
      subst (λ (n : Lengths). AtMost n 4294967296 4294967296 4294967296) (sym i.0) (sums-small a.words.now a.table a.part c.requires _ i.1),
      subst (λ (n : Lengths). AtMost n 4294967296 4294967296 4294967296) (sym (c.row_lengths-n.ensures ∙ ap row_lengths c.primitive_at.ensures))
          (small a.words.now a.table a.part _ (row-at-most a.words.now a.table a.part c.requires _ t)),
    )

pub loop-k-preserved : goal.loop-k-preserved
loop-k-preserved c =
    let a = c.args in
    let i = c.loop-k.invariant in
    let n = c.row_lengths-n.ensures ∙ ap row_lengths c.primitive_at.ensures in
    (c.plus-total.ensures ∙ (λ j. plus_lengths (i.0 j) (n j)) ∙ next-sum a.words.now a.table a.part _, omega (arith, c.loop-k-test.true))
