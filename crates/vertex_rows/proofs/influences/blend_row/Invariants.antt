use mathlib.Core.Path.{◌≡◌}
use Prim.Native.Nat.{◌≤◌}
use lib.ListN.{take}
use Rattle.model.specs.Lists.{row, rows_in}
use Rattle.model.specs.Vertices.{influences, mixture}
use Rattle.scene.specs.Values.{matrix_of}
use Rattle.vertex_rows.proofs.influences.blend_row.Given as goal

abbrev pub invariant-loop-e : goal.invariant-loop-e
invariant-loop-e l = (l.e ≤ 4) × (matrix_of l.sum ≡ mixture (influences (rows_in 16 l.by.palette.now) (take l.e (row 4 l.by.joints.now l.v)) (take l.e (row 4 l.by.weights.now l.v))))
