-- Rows keep their length when vertices are moved and turned. Assumes nothing.
use mathlib.Core.Path.{◌≡◌, refl}
use mathlib.Core.Bool.{Bool, true, false, not, ◌&&◌}
use mathlib.Core.List.{List, [], ◌∷◌}
use mathlib.Core.Option.{Option, none, some}
use Prim.Native.Nat.{ℕ}
use native.Mathlib.Omega.{arith}
use lib.Ieee.{Float, neg, lt, eq}
use lib.Ieee.Scale.{finite}
use lib.ListN.{length, take, length-append, length-take}
use Rattle.float.specs.F32.{zero32, one32}
use Rattle.model.specs.Lists.{pick, or_else}
use Rattle.model.specs.Vector.{Vector, at, over, norm, normalized}
use Rattle.model.specs.Matrix.{Matrix, turned, moved}
use Rattle.model.specs.Vertices.{turned_unit, turned_normal, divided, transformed_point, by_matrix}
use Rattle.vertex_rows.specs.Rows.{tangent_by, flipped}

pub point-length : (m : Matrix) (p : Vector) → length (transformed_point m p) ≡ 3
unfolding transformed_point divided
point-length m p = either (not (eq (moved m 3 p) zero32) && not (eq (moved m 3 p) one32) && finite (moved m 3 p)) (moved m 3 p) (moved m 0 p) (moved m 1 p) (moved m 2 p)
  where
    either : (b : Bool) (w x y z : Float) → length (pick b (over (x ∷ y ∷ z ∷ []) w) (x ∷ y ∷ z ∷ [])) ≡ 3
    either true w x y z = refl
    either false w x y z = refl

pub unit-length : (l : List Float) (v : Vector) → length v ≡ 3 → length (turned_unit l v) ≡ 3
unfolding turned_unit normalized turned
unit-length l v h = either (finite (norm (turned l v)) && lt zero32 (norm (turned l v))) (norm (turned l v)) v h
  where
    either : (b : Bool) (n : Float) (v : Vector) → length v ≡ 3 → length (or_else (pick b (some (over (turned l v) n)) none) v) ≡ 3
    either true n v h = refl
    either false n v h = h

pub normal-length : (l : Option (List Float)) (v : Vector) → length v ≡ 3 → length (turned_normal l v) ≡ 3
normal-length none v h = h
normal-length (some l) v h = unit-length l v h

pub tangent-length : (l : List Float) (mirror : Bool) (v : Vector) → length v ≡ 4 → length (tangent_by l mirror v) ≡ 4
unfolding tangent_by
tangent-length l mirror v h =
    let t : length (take 3 v) ≡ 3 = omega (arith, length-take 3 v) in
    omega (arith, length-append (turned_unit l (take 3 v)) (pick mirror (neg (at v 3)) (at v 3) ∷ []), unit-length l (take 3 v) t)

pub flipped-length : (v : Vector) → length v ≡ 4 → length (flipped v) ≡ 4
unfolding flipped
flipped-length v h = omega (arith, length-append (take 3 v) (neg (at v 3) ∷ []), length-take 3 v)

-- by a matrix, if there is one
pub optional-length : (n : ℕ) (f : Matrix → Vector → Vector) (o : Option Matrix) (v : Vector) → ((m : Matrix) → length (f m v) ≡ n) → length v ≡ n → length (by_matrix f o v) ≡ n
optional-length n f none v k h = h
optional-length n f (some m) v k h = k m
