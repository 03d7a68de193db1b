use Rattle.std.proofs.Common.{rules, refl}
use Rattle.model.specs.Vertices.{affine_point, transformed_point}
use Rattle.vertex_rows.proofs.Plain.{plain_moved}
use Rattle.vertex_rows.proofs.RowLengths.{point-length}
use Rattle.vertex_rows.proofs.positions.transform_positions.Goals as goal

pub returns-then-has_plain_bottom : goal.returns-then-has_plain_bottom
returns-then-has_plain_bottom c =
    plain_moved c.args.m.m _ _ _ c.has_plain_bottom.ensures c.if-has_plain_bottom.true
    (c.move_each.ensures (affine_point c.args.m.m) (record { made = λ p r q. search rules; three = λ v. refl }))

pub returns : goal.returns
returns c = c.move_each-2.ensures (transformed_point c.args.m.m) (record { made = λ p r q. search rules; three = point-length c.args.m.m })
