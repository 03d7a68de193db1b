use Rattle.model.specs.Vertices.{transformed}
use Rattle.transform.proofs.rigid.transformed.Goals as goal

pub returns-clause-moved : goal.returns-clause-moved
unfolding transformed
returns-clause-moved c =
    let d = c.transform_directions.ensures in
    record { positions = c.transform_positions.ensures; normals = d.normals; tangents = d.tangents }
