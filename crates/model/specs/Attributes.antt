-- Vertex attributes as they lie in flat slices: three floats a position or a normal, four a tangent. Definitions only.
use Rattle.std.specs.Prelude.{◌≡◌, List, [], ◌++◌, ℕ, ◌*◌, ◌/◌, Float, length, drop}
use Rattle.std.proofs.Math.Option.{none, some}
use Rattle.model.specs.Lists.{joined, rows_in, or_else}
use Rattle.model.specs.Vector.{Vector}
use Rattle.model.specs.Scene.{Primitive}
use Rattle.model.specs.Vertices.{Shape}

-- the vertices that three slices hold; an attribute that is absent has an empty slice
abbrev pub attributes_in : List Float → List Float → List Float → Primitive
attributes_in positions normals tangents = record {
  positions = rows_in 3 positions;
  normals = some (rows_in 3 normals);
  tangents = some (rows_in 4 tangents);
  joints = none;
  weights = none;
  targets = [];
}

abbrev pub shape_of : Primitive → Shape
shape_of p = record { positions = p.positions; normals = or_else p.normals []; tangents = or_else p.tangents [] }

-- rows in the place of the whole rows of a lent slice; past these it is as lent
abbrev pub over_rows : ℕ → List Vector → List Float → List Float
over_rows w rows lent = joined (λ r. r) rows ++ drop (length lent / w * w) lent

-- three slices after a call that changes the vertices in them
pub record Reshaped (s : Shape)
    (lent_positions left_positions lent_normals left_normals lent_tangents left_tangents : List Float) : Type 0 where
  pub positions : left_positions ≡ over_rows 3 s.positions lent_positions
  pub normals : left_normals ≡ over_rows 3 s.normals lent_normals
  pub tangents : left_tangents ≡ over_rows 4 s.tangents lent_tangents
