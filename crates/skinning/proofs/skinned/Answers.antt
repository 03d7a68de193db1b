use Rattle.model.specs.Lists.{rows_in}
use Rattle.skinning.proofs.Moved.{blocks-moved}
use Rattle.skinning.proofs.skinned.Goals as goal

pub returns-clause-moved : goal.returns-clause-moved
returns-clause-moved c =
    let a = c.args in
    blocks-moved (rows_in 16 a.by.palette.now) (rows_in 4 a.by.joints.now) (rows_in 4 a.by.weights.now) a.out.now.positions.now _ _ a.out.now.normals.now _ _ a.out.now.tangents.now _ _ c.skin_blocks.ensures.same_slices.position-length c.skin_blocks.ensures.moved c.skin_each.ensures.moved
