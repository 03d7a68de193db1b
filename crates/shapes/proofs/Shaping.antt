-- Blending and placing look at the vertices of a primitive alone, and keep their number. Assumes nothing.
use mathlib.Core.Path.{◌≡◌, refl, sym, ap, ◌∙◌}
use mathlib.Core.Bool.{Bool, true, false, ◌&&◌, true≢false, false≢true}
use mathlib.Core.List.{List, [], ◌∷◌, map}
use mathlib.Core.Option.{Option, none, some}
use Prim.Native.Nat.{ℕ, suc}
use denote.Bor.{Bor}
use lib.Dec.{ltb}
use lib.Ieee.{Float}
use lib.ListN.{length, length-map}
use Rattle.std.proofs.Common as rust
use Rattle.std.proofs.Common.{Some, None}
use Rattle.model.specs.Lists.{pick, indexed, or_else}
use Rattle.model.specs.Vector.{Vector}
use Rattle.model.specs.Matrix.{Matrix, determinant, linear, inverse_transpose}
use Rattle.model.specs.Inverse.{normal_matrix}
use Rattle.model.specs.Scene.{Primitive}
use Rattle.model.specs.Vertices.{Shape, affine_point, transformed_point, turned_normal, turned_tangent, joint_matrix, by_matrix, transformed, skinned}
use Rattle.model.specs.Attributes.{shape_of, over_rows, Reshaped}
use Rattle.model.specs.Bake.{placed_shape}
use Rattle.model.proofs.RowLaws.{Rows}
use Rattle.shapes.specs.Rest.{palette_in}
use Rattle.vertex_rows.proofs.RowLengths.{point-length, normal-length, tangent-length, optional-length}
use Rattle.vertex_rows.proofs.Turned.{tangent-by}

-- ---- which of the two placings
module _ (world : Matrix) (p : Primitive) where
  pub without-palette : (palette : rust.Option (Bor (List Float))) (js : Option (List (List ℕ))) (ws : Option (List Vector))
      → ((x : Bor (List Float)) → palette ≡ Some x → ⊥) → placed_shape world (palette_in palette) js ws p ≡ transformed world p
  unfolding placed_shape
  without-palette (Some x) js ws h = absurd (h x refl)
  without-palette None js ws h = refl

  module _ (palette : List Matrix) (js : List (List ℕ)) (ws : List Vector) where
    pub with-influences : (b c : Bool) → (b && c) ≡ true
        → placed_shape world (some palette) (pick b (some js) none) (pick c (some ws) none) p ≡ skinned palette js ws p
    unfolding placed_shape
    with-influences true true h = refl
    with-influences true false h = absurd (false≢true h)
    with-influences false c h = absurd (false≢true h)

    pub without-influences : (b c : Bool) → (b && c) ≡ false
        → placed_shape world (some palette) (pick b (some js) none) (pick c (some ws) none) p ≡ transformed world p
    unfolding placed_shape
    without-influences true true h = absurd (true≢false h)
    without-influences true false h = refl
    without-influences false c h = refl

-- slices that hold the vertices of a shape, said of an equal one
pub reshaped-as : (g h : Shape) (lp p ln n lt t : List Float) → g ≡ h → Reshaped g lp p ln n lt t → Reshaped h lp p ln n lt t
reshaped-as g h lp p ln n lt t e r = record {
  positions = r.positions ∙ ap (λ (s : Shape). over_rows 3 s.positions lp) e;
  normals = r.normals ∙ ap (λ (s : Shape). over_rows 3 s.normals ln) e;
  tangents = r.tangents ∙ ap (λ (s : Shape). over_rows 4 s.tangents lt) e;
}

-- ---- vertices alone
module _ (p q : Primitive) (e : shape_of p ≡ shape_of q) where
  transformed-alike : (m : Matrix) → transformed m p ≡ transformed m q
  unfolding transformed
  transformed-alike m = λ j. record {
    positions = map (transformed_point m) (e j).positions;
    normals = map (turned_normal (normal_matrix m)) (e j).normals;
    tangents = map (turned_tangent m) (e j).tangents;
  }

  skinned-alike : (palette : List Matrix) (js : List (List ℕ)) (ws : List Vector) → skinned palette js ws p ≡ skinned palette js ws q
  unfolding skinned
  skinned-alike palette js ws = λ j. skinned palette js ws (record { positions = (e j).positions; normals = some (e j).normals; tangents = some (e j).tangents; joints = none; weights = none; targets = [] })

  pub placed_alike : (m : Matrix) (palette : Option (List Matrix)) (js : Option (List (List ℕ))) (ws : Option (List Vector)) → placed_shape m palette js ws p ≡ placed_shape m palette js ws q
  unfolding placed_shape
  placed_alike m none js ws = transformed-alike m
  placed_alike m (some palette) none ws = transformed-alike m
  placed_alike m (some palette) (some js) none = transformed-alike m
  placed_alike m (some palette) (some js) (some ws) = skinned-alike palette js ws

-- ---- numbers of vertices, and the widths of their rows
pub record Rowed (s : Shape) (p n t : ℕ) : Type 0 where
  pub positions : Rows 3 s.positions
  pub normals : Rows 3 s.normals
  pub tangents : Rows 4 s.tangents
  pub position-count : length s.positions ≡ p
  pub normal-count : length s.normals ≡ n
  pub tangent-count : length s.tangents ≡ t

rows-mapped : (w : ℕ) (f : Vector → Vector) (l : List Vector) → ((v : Vector) → length v ≡ w → length (f v) ≡ w) → Rows w l → Rows w (map f l)
rows-mapped w f [] k h = tt
rows-mapped w f (v ∷ l) k (e, h) = (k v e, rows-mapped w f l k h)

rows-indexed : (w i : ℕ) (f : ℕ → Vector → Vector) (l : List Vector) → ((j : ℕ) (v : Vector) → length v ≡ w → length (f j v) ≡ w) → Rows w l → Rows w (indexed i f l)
unfolding indexed
rows-indexed w i f [] k h = tt
rows-indexed w i f (v ∷ l) k (e, h) = (k i v e, rows-indexed w (suc i) f l k h)

length-indexed : (i : ℕ) (f : ℕ → Vector → Vector) (l : List Vector) → length (indexed i f l) ≡ length l
unfolding indexed
length-indexed i f [] = refl
length-indexed i f (v ∷ l) = ap suc (length-indexed (suc i) f l)

tangent-width : (m : Matrix) (v : Vector) → length v ≡ 4 → length (turned_tangent m v) ≡ 4
tangent-width m v e = ap (λ (f : Vector → Vector). length (f v)) (sym (tangent-by m (linear m) (determinant m) refl refl)) ∙ tangent-length (linear m) _ v e

module _ (q : Primitive) (p n t : ℕ) (h : Rowed (shape_of q) p n t) where
  transformed-rowed : (m : Matrix) → Rowed (transformed m q) p n t
  unfolding transformed
  transformed-rowed m = record {
    positions = rows-mapped 3 (transformed_point m) q.positions (λ v e. point-length m v) h.positions;
    normals = rows-mapped 3 (turned_normal (normal_matrix m)) (or_else q.normals []) (normal-length (normal_matrix m)) h.normals;
    tangents = rows-mapped 4 (turned_tangent m) (or_else q.tangents []) (tangent-width m) h.tangents;
    position-count = length-map q.positions (transformed_point m) ∙ h.position-count;
    normal-count = length-map (or_else q.normals []) (turned_normal (normal_matrix m)) ∙ h.normal-count;
    tangent-count = length-map (or_else q.tangents []) (turned_tangent m) ∙ h.tangent-count;
  }

  skinned-rowed : (palette : List Matrix) (js : List (List ℕ)) (ws : List Vector) → Rowed (skinned palette js ws q) p n t
  unfolding skinned
  skinned-rowed palette js ws =
      let of : ℕ → Option Matrix = λ v. pick (ltb v (length q.positions)) (joint_matrix palette js ws v) none in
      let normal : Matrix → Vector → Vector = λ m y. turned_normal (inverse_transpose m) y in
      record {
        positions = rows-indexed 3 0 (λ j. by_matrix affine_point (of j)) q.positions (λ j v e. optional-length 3 affine_point (of j) v (λ m. refl) e) h.positions;
        normals = rows-indexed 3 0 (λ j. by_matrix normal (of j)) (or_else q.normals []) (λ j v e. optional-length 3 normal (of j) v (λ m. normal-length (inverse_transpose m) v e) e) h.normals;
        tangents = rows-indexed 4 0 (λ j. by_matrix turned_tangent (of j)) (or_else q.tangents []) (λ j v e. optional-length 4 turned_tangent (of j) v (λ m. tangent-width m v e) e) h.tangents;
        position-count = length-indexed 0 (λ j. by_matrix affine_point (of j)) q.positions ∙ h.position-count;
        normal-count = length-indexed 0 (λ j. by_matrix normal (of j)) (or_else q.normals []) ∙ h.normal-count;
        tangent-count = length-indexed 0 (λ j. by_matrix turned_tangent (of j)) (or_else q.tangents []) ∙ h.tangent-count;
      }

  pub placed-rowed : (m : Matrix) (palette : Option (List Matrix)) (js : Option (List (List ℕ))) (ws : Option (List Vector)) → Rowed (placed_shape m palette js ws q) p n t
  unfolding placed_shape
  placed-rowed m none js ws = transformed-rowed m
  placed-rowed m (some palette) none ws = transformed-rowed m
  placed-rowed m (some palette) (some js) none = transformed-rowed m
  placed-rowed m (some palette) (some js) (some ws) = skinned-rowed palette js ws
