use mathlib.Core.Path.{ap, ◌∙◌}
use mathlib.Core.List.{List}
use Prim.Native.Nat.{◌+◌, ◌/◌}
use lib.Dec.{leb}
use lib.Ieee.{Float}
use lib.ListN.{length}
use borrow.Author.Tests.{leb-true, leb-false}
use Rattle.model.specs.Lists.{pick, row, rows_in}
use Rattle.transform.specs.Blocks.{unit_over, rows_from}
use Rattle.skinning.proofs.HeldSteps.{block-moved}
use Rattle.skinning.proofs.holding.skin_block.Goals as goal

pub returns-clause-moved : goal.returns-clause-moved
returns-clause-moved c =
    let a = c.args in
    let held = c.hold_block-held in
    let n = length a.out.now.normals.now / 3 in
    let t = length a.out.now.tangents.now / 4 in
    block-moved (rows_in 16 a.by.palette.now) (rows_in 4 a.by.joints.now) (rows_in 4 a.by.weights.now) _ a.k a.out.now.positions.now a.out.now.normals.now a.out.now.tangents.now _ _ _ _ _ _
    (leb-true (a.k + 16) n) (λ f. c.requires.1 (leb-false (a.k + 16) n f)) (leb-true (a.k + 16) t) (λ f. c.requires.2 (leb-false (a.k + 16) t f))
    held.ensures.held
    (c.put_held.ensures ∙ ap (λ (ns : List Float). pick (leb (a.k + 16) n) (rows_from 3 (λ i. unit_over (row 3 held.result.normals i)) a.k ns 16) ns) held.ensures.normals)
    c.put_held-2.ensures
