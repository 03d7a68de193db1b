use Rattle.tables.specs.Decoded.{lent_of}
use Rattle.bake_writing.proofs.Finishing.{delivered}
use Rattle.bake_writing.proofs.delivery.deliver.Goals as goal

pub returns-clause-delivers : goal.returns-clause-delivers
returns-clause-delivers c =
    let a = c.args in
    delivered (lent_of a.lent) a.node a.time a.marks.now a.placed.places.now a.placed.worlds.now
    _ _ _ _ _ _ _ _ _ _ _ c.mesh_of-mesh.ensures c.node_row-row.ensures c.weights_into-n.ensures c.load-world.ensures
    (c.put_out.ensures.put a.lent.node_weights.now a.lent.mesh_weights.now)
