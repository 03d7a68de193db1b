use Rattle.mesh.proofs.StationLaws.{target-blends}
use Rattle.mesh.proofs.blending.blend_of.Goals as goal

pub returns : goal.returns
returns c =
    let a = c.args in
    target-blends a.lent.words.now a.lent.floats.now a.lent.header a.row a.w c.longer.result c.longer-2.result c.widened_by_all.result
    c.longer.ensures c.longer-2.ensures c.widened_by_all.ensures
