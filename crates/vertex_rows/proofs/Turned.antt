-- Directions by the results of their parts. Assumes nothing.
use mathlib.Core.Path.{◌≡◌, refl, sym, ap, ◌∙◌}
use mathlib.Core.Option.{Option}
use mathlib.Core.Bool.{Bool, true, false}
use mathlib.Core.List.{List, [], ◌∷◌, ◌++◌}
use Prim.Native.Nat.{ℕ}
use lib.Ieee.{Float, neg, lt}
use Rattle.float.specs.F32.{zero32}
use Rattle.model.specs.Lists.{pick, or_else}
use Rattle.model.specs.Vector.{Vector, normalized}
use Rattle.model.specs.Matrix.{Matrix, linear, turned, determinant, inverse_transpose}
use Rattle.model.specs.Vertices.{turned_unit, turned_normal, turned_tangent}
use Rattle.vertex_rows.specs.Rows.{tangent_by, row_changed}
use Rattle.vertex_rows.specs.Blending.{Turned}
use Rattle.vertex_rows.proofs.RowSteps.{row_kept}
use Rattle.scene.specs.Values.{vec3, unit_of, linear_of}
use Rattle.scene.specs.declared.Vec3.{Vec3}
use Rattle.scene.specs.declared.Mat3.{Mat3}
use Rattle.std.proofs.Common as rust

-- l times v, by the product t and the direction d of that
pub by-direction : (l : List Float) (v t : Vec3) (d : rust.Option Vec3) → vec3 t ≡ turned l (vec3 v) → unit_of d ≡ normalized (vec3 t) → vec3 (rust.unwrap_or d v) ≡ turned_unit l (vec3 v)
unfolding turned_unit
by-direction l v t d product told = either d ∙ ap (λ (o : Option Vector). or_else o (vec3 v)) (told ∙ ap normalized product)
  where
    either : (o : rust.Option Vec3) → vec3 (rust.unwrap_or o v) ≡ or_else (unit_of o) (vec3 v)
    either rust.None = refl
    either (rust.Some u) = refl

-- ---- by a normal matrix n
module _ (n : rust.Option Mat3) (lent : List Float) where
  pub normal-left : (k : ℕ) → n ≡ rust.None → lent ≡ row_changed 3 (turned_normal (linear_of n)) k lent
  normal-left k e = row_kept 3 k lent ∙ sym (ap (λ (x : rust.Option Mat3). row_changed 3 (turned_normal (linear_of x)) k lent) e)

-- a tangent, by its direction once turned
module _ (l : List Float) (mirror : Bool) (x y z h : Float) (u : Vector) (turns : u ≡ turned_unit l (x ∷ y ∷ z ∷ [])) where
  pub flips : mirror ≡ true → u ++ (neg h ∷ []) ≡ tangent_by l mirror (x ∷ y ∷ z ∷ h ∷ [])
  unfolding tangent_by
  flips e = (λ j. turns j ++ (pick (sym e j) (neg h) h ∷ []))

  pub stays : mirror ≡ false → u ++ (h ∷ []) ≡ tangent_by l mirror (x ∷ y ∷ z ∷ h ∷ [])
  unfolding tangent_by
  stays e = (λ j. turns j ++ (pick (sym e j) (neg h) h ∷ []))

-- tangents by the linear part l of m and its determinant d
pub tangent-by : (m : Matrix) (l : List Float) (d : Float) → l ≡ linear m → d ≡ determinant m → tangent_by l (lt d zero32) ≡ turned_tangent m
unfolding tangent_by turned_tangent
tangent-by m l d p q = (λ j v. tangent_by (p j) (lt (q j) zero32) v)

pub turned_by : (m : Matrix) (v : ℕ) (normals n tangents t : List Float) (l : rust.Option Mat3) (k : List Float) (d : Float) → linear_of l ≡ inverse_transpose m → k ≡ linear m → d ≡ determinant m
    → n ≡ row_changed 3 (turned_normal (linear_of l)) v normals → t ≡ row_changed 4 (tangent_by k (lt d zero32)) v tangents → Turned m v normals n tangents t
turned_by m v normals n tangents t l k d i p q e f = record {
  normals = e ∙ ap (λ (o : Option (List Float)). row_changed 3 (turned_normal o) v normals) i;
  tangents = f ∙ ap (λ (g : Vector → Vector). row_changed 4 g v tangents) (tangent-by m k d p q);
}
