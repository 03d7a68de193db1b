-- Rows of a slice that are changed one by one, and tangents. Definitions only.
use Rattle.std.specs.Prelude.{◌≡◌, List, [], ◌∷◌, ◌++◌, Bool, ◌&&◌, ℕ, zero, suc, ◌*◌, ◌/◌, ltb, Float, length, take}
use Rattle.std.specs.Float.Ieee.{neg, eq}
use Rattle.std.proofs.Math.Seq.{paste}
use Rattle.float.specs.F32.{zero32, one32}
use Rattle.model.specs.Lists.{pick, row}
use Rattle.model.specs.Vector.{Vector, at}
use Rattle.model.specs.Matrix.{Matrix, entry}
use Rattle.model.specs.Vertices.{turned_unit}
use Rattle.scene.specs.declared.Vec3.{Vec3}
use Rattle.scene.specs.Values.{vec3}
use Rattle.vertex_rows.specs.declared.rows.Tangent.{Tangent}

abbrev pub tangent : Tangent → Vector
tangent t = t.direction.x ∷ t.direction.y ∷ t.direction.z ∷ t.handedness ∷ []

-- x, y and z of a tangent by a linear part, which may mirror
unfoldable pub tangent_by : List Float → Bool → Vector → Vector
tangent_by l mirror v = turned_unit l (take 3 v) ++ (pick mirror (neg (at v 3)) (at v 3) ∷ [])

-- a tangent with the other handedness
unfoldable pub flipped : Vector → Vector
flipped v = take 3 v ++ (neg (at v 3) ∷ [])

-- the bottom row is (0, 0, 0, 1)
unfoldable pub has_plain_bottom : Matrix → Bool
has_plain_bottom m =
    eq (entry m 3 0) zero32 && eq (entry m 3 1) zero32 && eq (entry m 3 2) zero32 && eq (entry m 3 3) one32

-- a slice with row k changed, if it has that row
unfoldable pub row_changed : ℕ → (Vector → Vector) → ℕ → List Float → List Float
row_changed w f k l = pick (ltb k (length l / w)) (paste l (k * w) (f (row w l k)) w) l

-- a slice with the first n rows changed, one after the other
unfoldable pub first_rows : ℕ → (ℕ → Vector → Vector) → List Float → ℕ → List Float
first_rows w f l zero = l
first_rows w f l (suc k) = row_changed w (f k) k (first_rows w f l k)

-- a call makes of a point what g makes of it, three numbers
pub record Makes (R : Vec3 → Vec3 → Type 0) (g : Vector → Vector) : Type 0 where
  pub made : (p r : Vec3) → R p r → vec3 r ≡ g (vec3 p)
  pub three : (v : Vector) → length (g v) ≡ 3
