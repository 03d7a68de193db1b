use mathlib.Core.Path.{ap, ◌∙◌}
use mathlib.Core.List.{map}
use Rattle.model.specs.Lists.{rows_in}
use Rattle.model.specs.Vector.{Vector}
use Rattle.model.specs.Vertices.{turned_normal}
use Rattle.model.specs.Attributes.{over_rows}
use Rattle.vertex_rows.proofs.Turned.{tangent-by}
use Rattle.transform.proofs.rigid.transform_directions.Goals as goal

pub returns : goal.returns
returns c =
    let a = c.args in
    let n = a.normals.now in
    let t = a.tangents.now in
    record {
      normals = c.transform_normals.ensures ∙ (λ j. over_rows 3 (map (turned_normal (c.normal_matrix.ensures j)) (rows_in 3 n)) n);
      tangents =
          c.transform_tangents.ensures
          ∙ ap (λ (f : Vector → Vector). over_rows 4 (map f (rows_in 4 t)) t) (tangent-by a.m.m _ _ c.linear_part.ensures c.linear_det.ensures);
    }
