-- Sixteen vertices whose directions are held back, one by one. Assumes nothing.
use mathlib.Core.Path.{◌≡◌, refl, sym, ap, subst, ◌∙◌}
use mathlib.Core.Bool.{Bool, true, false, true≢false}
use mathlib.Core.Option.{Option, some}
use mathlib.Core.List.{List}
use Prim.Native.Nat.{ℕ, ◌+◌, ◌*◌, ◌/◌, ◌≤◌}
use native.Mathlib.Omega.{arith}
use lib.Ieee.{Float, lt}
use lib.ListN.{length, take, drop}
use lib.Seq.{paste, take-take}
use Rattle.float.specs.F32.{zero32}
use Rattle.model.specs.Lists.{pick, and_then, map_some, row}
use Rattle.model.specs.Vector.{Vector}
use Rattle.model.specs.Matrix.{Matrix, linear, determinant, inverse_transpose}
use Rattle.model.specs.Vertices.{by_matrix, affine_point, turned_normal, turned_tangent, joint_matrix}
use Rattle.model.proofs.Rowwise.{row-length}
use Rattle.scene.specs.Values.{linear_of, matrix_of}
use Rattle.scene.specs.declared.Mat3.{Mat3}
use Rattle.scene.specs.declared.Mat4.{Mat4}
use Rattle.std.proofs.Common as rust
use Rattle.vertex_rows.specs.Rows.{flipped, row_changed}
use Rattle.transform.specs.Blocks.{unit_over, rows_from}
use Rattle.skinning.specs.declared.holding.Whole.{Whole}
use Rattle.skinning.specs.Moved.{MovedFrom}
use Rattle.skinning.specs.Holding.{zeros, direction_by, handed, HeldOne, Held, HeldVertex, HeldRows}
use Rattle.vertex_rows.proofs.RowSteps.{row_kept}
use Rattle.vertex_rows.proofs.RowLengths.{normal-length, optional-length}
use Rattle.transform.proofs.Packing.{packed_none, packed_more}
use Rattle.transform.proofs.Blocked.{ahead}
use Rattle.skinning.proofs.HeldBack.{direction-length, handed-length, normal-unit, tangent-unit, from-still, put-after}
use Rattle.skinning.proofs.Moved.{turned-length, next_row}

-- ---- one vertex
pub held-not : (whole : Bool) (i : ℕ) (x : Vector) (l : List Float) → whole ≡ false → HeldOne whole i x l l
held-not whole i x l f = record { stored = λ t. absurd (true≢false (sym t ∙ f)) }

-- a normal by the linear part l
pub held-normal : (whole : Bool) (m : Matrix) (normals : List Float) (v i : ℕ) (lent left : List Float) (l : rust.Option Mat3) (n d : Vector) → linear_of l ≡ inverse_transpose m → n ≡ row 3 normals v → d ≡ direction_by (linear_of l) n
    → left ≡ paste lent (i * 3) d 3 → HeldOne whole i (direction_by (inverse_transpose m) (row 3 normals v)) lent left
held-normal whole m normals v i lent left l n d q p r e = record { stored = λ _. e ∙ ap (λ (x : Vector). paste lent (i * 3) x 3) (r ∙ (λ j. direction_by (q j) (p j))) }

pub hands : (m : Matrix) (d : Float) (v : ℕ) (l left : List Float) → d ≡ determinant m → left ≡ row_changed 4 (λ x. pick (lt d zero32) (flipped x) x) v l → left ≡ row_changed 4 (handed m) v l
unfolding handed
hands m d v l left q e = e ∙ (λ j. row_changed 4 (λ x. pick (lt (q j) zero32) (flipped x) x) v l)

module _ (whole : Whole) (o : rust.Option Mat4) (v i : ℕ) (lp ln lt dn dt : List Float) where
  pub held_by : (m : Mat4) (p t en et : List Float) → o ≡ rust.Some m → p ≡ row_changed 3 (affine_point m.m) v lp → Held whole (some m.m) v i ln lt t dn en dt et
      → HeldVertex whole (matrix_of o) v i lp p ln lt t dn en dt et
  held_by m p t en et a e h = subst (λ (x : rust.Option Mat4). HeldVertex whole (matrix_of x) v i lp p ln lt t dn en dt et) (sym a) (record { positions = e; directions = h })

  pub held_none : (en et : List Float) → o ≡ rust.None → en ≡ paste dn (i * 3) zeros 3 → et ≡ paste dt (i * 3) zeros 3 → HeldVertex whole (matrix_of o) v i lp lp ln lt lt dn en dt et
  held_none en et a n t =
      subst (λ (x : rust.Option Mat4). HeldVertex whole (matrix_of x) v i lp lp ln lt lt dn en dt et) (sym a)
      (record {
        positions = row_kept 3 v lp;
        directions = record { tangents = row_kept 4 v lt; normal = record { stored = λ _. n }; tangent = record { stored = λ _. t } };
      })

-- ---- vertices from k on
module _ (palette : List Matrix) (joints : List (List ℕ)) (weights : List Vector) (whole : Whole) (k : ℕ) (lp ln lt : List Float) where
  abbrev jointed : ℕ → Option Matrix
  jointed i = joint_matrix palette joints weights (k + i)

  pub none-held : (dn dt : List Float) → HeldRows palette joints weights whole k 0 lp lp ln lt lt dn dt
  unfolding rows_from
  none-held dn dt = record { positions = refl; tangents = refl; normal = λ _. packed_none _ dn; tangent = λ _. packed_none _ dt }

  pub next-held : (n : ℕ) (m : Option Matrix) (p p' t t' dn en dt et : List Float) → m ≡ jointed n → n * 3 ≤ length dn → n * 3 ≤ length dt → HeldRows palette joints weights whole k n lp p ln lt t dn dt
      → HeldVertex whole m (k + n) n p p' ln t t' dn en dt et → HeldRows palette joints weights whole k (n + 1) lp p' ln lt t' en et
  next-held n m p p' t t' dn en dt et e bn bt f s =
      let d : drop ((k + n) * 4) t ≡ drop ((k + n) * 4) lt
      = ap (drop ((k + n) * 4)) f.tangents ∙ ahead 4 (λ i. by_matrix handed (jointed i)) (λ i v h. handed-length (jointed i) v h) k lt n (k + n) (omega arith) in
      record {
        positions = next_row palette joints weights k n m e 3 affine_point lp p p' s.positions f.positions;
        tangents = next_row palette joints weights k n m e 4 handed lt t t' s.directions.tangents f.tangents;
        normal = λ w. packed_more n _ dn en _ bn (direction-length (and_then m inverse_transpose) _) (f.normal w) (s.directions.normal.stored w) (ap (λ (o : Option Matrix). direction_by (and_then o inverse_transpose) (row 3 ln (k + n))) e);
        tangent = λ w. packed_more n _ dt et _ bt (direction-length (map_some linear m) _) (f.tangent w) (s.directions.tangent.stored w) (λ j. direction_by (map_some linear (e j)) (take 3 (d j)));
      }

  -- all sixteen, and then their directions
  pub block-moved : (p o t t' dn dt : List Float) → (whole.normals ≡ true → k + 16 ≤ length ln / 3) → (whole.normals ≡ false → length ln / 3 ≤ k) → (whole.tangents ≡ true → k + 16 ≤ length lt / 4) → (whole.tangents ≡ false → length lt / 4 ≤ k)
      → HeldRows palette joints weights whole k 16 lp p ln lt t dn dt
      → o ≡ pick whole.normals (rows_from 3 (λ i. unit_over (row 3 dn i)) k ln 16) ln → t' ≡ pick whole.tangents (rows_from 4 (λ i. unit_over (row 3 dt i)) k t 16) t
      → MovedFrom palette joints weights k 16 lp p ln o lt t'
  block-moved p o t t' dn dt an nn at nt f en et = record {
    positions = f.positions;
    normals =
        put-after 3 (λ _ v. v) (λ i. by_matrix (λ m y. turned_normal (inverse_transpose m) y) (jointed i)) (λ i. direction_by (and_then (jointed i) inverse_transpose) (row 3 ln (k + i))) (omega arith)
        (λ i v h. h) (λ i v h. optional-length 3 (λ m y. turned_normal (inverse_transpose m) y) (jointed i) v (λ m. normal-length (inverse_transpose m) v h) h) (λ i. direction-length (and_then (jointed i) inverse_transpose) _)
        k ln ln o dn (λ i b. normal-unit (jointed i) (row 3 ln (k + i)) (row-length 3 ln (k + i) b))
        whole.normals an nn (from-still 3 k ln 16) f.normal en;
    tangents =
        put-after 4 (λ i. by_matrix handed (jointed i)) (λ i. by_matrix turned_tangent (jointed i)) (λ i. direction_by (map_some linear (jointed i)) (take 3 (drop ((k + i) * 4) lt))) (omega arith)
        (λ i v h. handed-length (jointed i) v h) (λ i v h. optional-length 4 turned_tangent (jointed i) v (λ m. turned-length m v h) h) (λ i. direction-length (map_some linear (jointed i)) _)
        k lt t t' dt
        (λ i b. ap (λ (x : Vector). unit_over (direction_by (map_some linear (jointed i)) x) (by_matrix handed (jointed i) (row 4 lt (k + i)))) (sym (take-take 3 4 (drop ((k + i) * 4) lt) (omega arith))) ∙ tangent-unit (jointed i) (row 4 lt (k + i)) (row-length 4 lt (k + i) b))
        whole.tangents at nt f.tangents f.tangent et;
  }
