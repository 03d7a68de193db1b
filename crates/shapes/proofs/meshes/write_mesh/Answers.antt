use mathlib.Core.Path.{sym, ap, ◌∙◌, subst}
use mathlib.Core.List.{[]}
use borrow.Author.Rules.{rules}
use Rattle.tables.specs.declared.PrimitiveRow.{PrimitiveRow}
use Rattle.checks.specs.Drawn.{lent_as}
use Rattle.shapes.specs.Rest.{palette_in, row_lengths, RowFits}
use Rattle.shapes.proofs.Putting.{put-as}
use Rattle.shapes.proofs.Going.{none_yet, next-room, small-sum, small-sums, next, all-put}
use Rattle.shapes.proofs.meshes.write_mesh.Goals as goal

pub loop-k-init : goal.loop-k-init
loop-k-init c =
    let a = c.args in
    (search rules, none_yet (lent_as a.lent.words.now a.lent.floats.now [] [] a.lent.header) a.part a.weights.now a.world.m (palette_in a.palette) a.out.now.positions.now a.out.now.normals.now a.out.now.tangents.now _ c.none-at.ensures)

pub put_primitive-requires : goal.put_primitive-requires
put_primitive-requires c =
    let a = c.args in
    let g = c.loop-k.invariant.1 in
    let b = c.loop-k-test.true in
    let row = c.primitive_at-row.ensures in
    let n = c.row_lengths-n.ensures ∙ ap row_lengths row in (
      c.row_lengths-n.ensures,
      subst (λ (r : PrimitiveRow). RowFits a.lent.floats.now r) (sym row) (c.requires.0.fits _ b),
      next-room (lent_as a.lent.words.now a.lent.floats.now [] [] a.lent.header) a.part a.weights.now a.world.m (palette_in a.palette) a.out.now.positions.now a.out.now.normals.now a.out.now.tangents.now c.requires.0 c.requires.1 _ _ _ _ _ g b _ n,
      small-sum (lent_as a.lent.words.now a.lent.floats.now [] [] a.lent.header) a.part a.weights.now a.world.m (palette_in a.palette) a.out.now.positions.now a.out.now.normals.now a.out.now.tangents.now c.requires.0 c.requires.1 _ _ _ _ _ g b _ n,
    )

pub plus-at-requires : goal.plus-at-requires
plus-at-requires c =
    let a = c.args in
    let g = c.loop-k.invariant.1 in
    let b = c.loop-k-test.true in
    let n = c.row_lengths-n.ensures ∙ ap row_lengths c.primitive_at-row.ensures in
    small-sums (lent_as a.lent.words.now a.lent.floats.now [] [] a.lent.header) a.part a.weights.now a.world.m (palette_in a.palette) a.out.now.positions.now a.out.now.normals.now a.out.now.tangents.now c.requires.0 c.requires.1 _ _ _ _ _ g b _ n

pub loop-k-preserved : goal.loop-k-preserved
loop-k-preserved c =
    let a = c.args in
    let g = c.loop-k.invariant.1 in
    let b = c.loop-k-test.true in
    let row = c.primitive_at-row.ensures in
    let n = c.row_lengths-n.ensures ∙ ap row_lengths row in (
      search rules,
      next (lent_as a.lent.words.now a.lent.floats.now [] [] a.lent.header) a.part a.weights.now a.world.m (palette_in a.palette) a.out.now.positions.now a.out.now.normals.now a.out.now.tangents.now c.requires.0 c.requires.1 _ _ _ _ _ g b _ n _ c.plus-at.ensures _ _ _
          (put-as (lent_as a.lent.words.now a.lent.floats.now [] [] a.lent.header) a.weights.now a.world.m (palette_in a.palette) _ _ _ _ _ _ _ _ _ _ row c.put_primitive.ensures),
    )

pub returns-clause-put : goal.returns-clause-put
returns-clause-put c = let a = c.args in all-put (lent_as a.lent.words.now a.lent.floats.now [] [] a.lent.header) a.part a.weights.now a.world.m (palette_in a.palette) a.out.now.positions.now a.out.now.normals.now a.out.now.tangents.now _ _ _ _ _ c.loop-k.invariant.1 c.loop-k-test.false
