-- What the values of the code say, as the model's lists and transforms. Definitions only.
use Rattle.std.specs.Prelude.{List, [], ◌∷◌, Float, Option, Some, None}
use Rattle.std.proofs.Math.Option as math
use Rattle.model.specs.Vector.{Vector}
use Rattle.model.specs.Matrix.{Matrix}
use Rattle.model.specs.Transform as model
use Rattle.scene.specs.declared.Vec3.{Vec3}
use Rattle.scene.specs.declared.Quat.{Quat}
use Rattle.scene.specs.declared.Mat3.{Mat3}
use Rattle.scene.specs.declared.Mat4.{Mat4}
use Rattle.scene.specs.declared.Trs.{Trs}
use Rattle.scene.specs.declared.matrices.Row.{Row}
use Rattle.scene.specs.declared.matrices.Rows.{Rows}
use Rattle.scene.specs.declared.Transform.{Transform}
use Rattle.scene.specs.declared.Transform.TheVariants as transform

abbrev pub vec3 : Vec3 → Vector
vec3 v = v.x ∷ v.y ∷ v.z ∷ []

abbrev pub quat : Quat → Vector
quat q = q.x ∷ q.y ∷ q.z ∷ q.w ∷ []

-- nine numbers, row by row
abbrev pub mat3 : Mat3 → List Float
mat3 l = l.m00 ∷ l.m01 ∷ l.m02 ∷ l.m10 ∷ l.m11 ∷ l.m12 ∷ l.m20 ∷ l.m21 ∷ l.m22 ∷ []

abbrev pub in_row : Row → Vector
in_row r = r.x ∷ r.y ∷ r.z ∷ r.w ∷ []

abbrev pub by_rows : Rows → Matrix
by_rows m =
    m.a.x ∷ m.a.y ∷ m.a.z ∷ m.a.w
    ∷ m.b.x ∷ m.b.y ∷ m.b.z ∷ m.b.w
    ∷ m.c.x ∷ m.c.y ∷ m.c.z ∷ m.c.w
    ∷ m.d.x ∷ m.d.y ∷ m.d.z ∷ m.d.w
    ∷ []

abbrev pub trs : Trs → model.Trs
trs p = record { translation = vec3 p.translation; rotation = quat p.rotation; scale = vec3 p.scale }

abbrev pub transform_of : Transform → model.Transform
transform_of (transform.Trs p) = model.parts (trs p)
transform_of (transform.Matrix e) = model.matrix e.m

abbrev pub unit_of : Option Vec3 → math.Option Vector
unit_of (Some v) = math.some (vec3 v)
unit_of None = math.none

abbrev pub linear_of : Option Mat3 → math.Option (List Float)
linear_of (Some l) = math.some (mat3 l)
linear_of None = math.none

abbrev pub matrix_of : Option Mat4 → math.Option Matrix
matrix_of (Some m) = math.some m.m
matrix_of None = math.none
