-- Vertices placed in the world: scope, "Morphed and baked vertices" (transform.rs, skinning.rs); glTF 2.0, 3.7.3.
-- Definitions only.
use Rattle.std.specs.Prelude.{List, [], ◌∷◌, ◌++◌, map, Bool, not, ◌&&◌, ℕ, zero, suc, ltb, Float, length, take, replicate}
use Rattle.std.proofs.Math.Option.{Option, none, some}
use Rattle.std.specs.Float.Ieee.{neg, lt, eq}
use Rattle.std.specs.Float.Ieee.Scale.{finite}
use Rattle.std.proofs.Math.ListN.{get_elem?}
use Rattle.float.specs.F32.{zero32, one32}
use Rattle.model.specs.Lists.{pick, foldl, indexed, or_else, and_then}
use Rattle.model.specs.Vector.{Vector, at, ◌⊙◌, ◌⊞◌, over, normalized}
use Rattle.model.specs.Matrix.{Matrix, linear, turned, moved, determinant, inverse_transpose}
use Rattle.model.specs.Inverse.{normal_matrix}
use Rattle.model.specs.Scene.{Primitive}

-- the vertices of a baked primitive; an attribute that is absent adds nothing
pub record Shape : Type 0 where
  pub positions : List Vector
  pub normals : List Vector
  pub tangents : List Vector

-- x, y and z of a point under a matrix
abbrev pub affine_point : Matrix → Vector → Vector
affine_point m p = moved m 0 p ∷ moved m 1 p ∷ moved m 2 p ∷ []

-- a direction under a linear part, of length 1; as it was where it has no length
unfoldable pub turned_unit : List Float → Vector → Vector
turned_unit l v = or_else (normalized (turned l v)) v

-- by the normal matrix, if there is one
abbrev pub turned_normal : Option (List Float) → Vector → Vector
turned_normal none v = v
turned_normal (some l) v = turned_unit l v

-- x, y and z of a tangent by the linear part; the handedness flips under a mirror
unfoldable pub turned_tangent : Matrix → Vector → Vector
turned_tangent m v = turned_unit (linear m) (take 3 v) ++ (pick (lt (determinant m) zero32) (neg (at v 3)) (at v 3) ∷ [])

-- ---- rigid (`transformed`)

-- divided by w, where that is finite and neither 0 nor 1
unfoldable pub divided : Float → Vector → Vector
divided w v = pick (not (eq w zero32) && not (eq w one32) && finite w) (over v w) v

unfoldable pub transformed_point : Matrix → Vector → Vector
transformed_point m p = divided (moved m 3 p) (affine_point m p)

unfoldable pub transformed : Matrix → Primitive → Shape
transformed m p = record {
  positions = map (transformed_point m) p.positions;
  normals = map (turned_normal (normal_matrix m)) (or_else p.normals []);
  tangents = map (turned_tangent m) (or_else p.tangents []);
}

-- ---- skinned (`skinned`)

pub record Influence : Type 0 where
  pub weight : Float
  pub matrix : Matrix

-- an influence counts if it is finite, above 0, and of a joint in the palette
abbrev pub counted : Option Matrix → Float → List Influence → List Influence
counted none w rest = rest
counted (some m) w rest = pick (finite w && lt zero32 w) (record { weight = w; matrix = m } ∷ rest) rest

-- the influences of a vertex that count
unfoldable pub influences : List Matrix → List ℕ → Vector → List Influence
influences palette [] ws = []
influences palette (j ∷ js) [] = []
influences palette (j ∷ js) (w ∷ ws) = counted (get_elem? palette j) w (influences palette js ws)

-- their matrices, weighted and added up from zeros
abbrev pub mixture : List Influence → Option Matrix
mixture [] = none
mixture (i ∷ is) =
    some (foldl (λ (m : Matrix) (i : Influence). m ⊞ i.weight ⊙ i.matrix) (replicate 16 zero32) (i ∷ is))

-- the matrix of vertex v; none where it has no row or no influence that counts
abbrev pub joint_matrix : List Matrix → List (List ℕ) → List Vector → ℕ → Option Matrix
joint_matrix palette joints weights v =
    and_then (get_elem? joints v) (λ js. and_then (get_elem? weights v) (λ ws. mixture (influences palette js ws)))

abbrev pub by_matrix : (Matrix → Vector → Vector) → Option Matrix → Vector → Vector
by_matrix f none x = x
by_matrix f (some m) x = f m x

unfoldable pub skinned : List Matrix → List (List ℕ) → List Vector → Primitive → Shape
skinned palette joints weights p =
    record {
      positions = indexed 0 (λ v x. by_matrix affine_point (of_vertex v) x) p.positions;
      normals =
          indexed 0 (λ v x. by_matrix (λ m y. turned_normal (inverse_transpose m) y) (of_vertex v) x)
          (or_else p.normals []);
      tangents = indexed 0 (λ v x. by_matrix turned_tangent (of_vertex v) x) (or_else p.tangents []);
    }
  where
    -- entries past the last position have no vertex
    of_vertex : ℕ → Option Matrix
    of_vertex v = pick (ltb v (length p.positions)) (joint_matrix palette joints weights v) none
