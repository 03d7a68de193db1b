-- Vertices that are moved by a matrix, in slices. Assumes nothing.
use mathlib.Core.Path.{◌≡◌, refl, sym, ap, subst, ◌∙◌}
use mathlib.Core.Bool.{Bool}
use mathlib.Core.Option.{Option, none}
use mathlib.Core.List.{List}
use Prim.Native.Nat.{ℕ, zero, suc, ◌+◌, ◌-◌, ◌*◌, ◌/◌, ◌≤◌, ◌<◌}
use native.Mathlib.Nat.{div-mul-le_self}
use native.Mathlib.Omega.{arith}
use borrow.Author.Tests.{lt-ltb, le-ltb}
use lib.Dec.{ltb}
use lib.Ieee.{Float, lt}
use lib.ListN.{length}
use Rattle.float.specs.F32.{zero32}
use Rattle.model.specs.Lists.{pick, indexed, rows_in, row}
use Rattle.model.specs.Vector.{Vector}
use Rattle.model.specs.Matrix.{Matrix, linear, determinant, inverse_transpose}
use Rattle.model.specs.Vertices.{by_matrix, affine_point, turned_normal, turned_tangent, joint_matrix, skinned}
use Rattle.model.specs.Attributes.{attributes_in, over_rows, Reshaped}
use Rattle.model.proofs.Rowwise.{row_count, row-length}
use Rattle.vertex_rows.specs.Rows.{tangent_by, row_changed, first_rows}
use Rattle.vertex_rows.specs.Blending.{Skinned}
use Rattle.transform.specs.Blocks.{rows_from}
use Rattle.skinning.specs.Moved.{MovedFrom, FirstMoved}
use Rattle.vertex_rows.proofs.RowSteps.{rows-done}
use Rattle.vertex_rows.proofs.RowLengths.{normal-length, tangent-length, optional-length}
use Rattle.transform.proofs.Blocked.{rows-joined, next-from, next-block}

pub turned-length : (m : Matrix) (v : Vector) → length v ≡ 4 → length (turned_tangent m v) ≡ 4
unfolding tangent_by turned_tangent
turned-length m v h = tangent-length (linear m) (lt (determinant m) zero32) v h

-- ---- all vertices
-- the first n rows by two rules that agree on them
first_alike : (w : ℕ) (f g : ℕ → Vector → Vector) (l : List Float) (n : ℕ) → ((i : ℕ) → i < n → f i ≡ g i) → first_rows w f l n ≡ first_rows w g l n
unfolding first_rows
first_alike w f g l zero h = refl
first_alike w f g l (suc n) h = (λ j. row_changed w (h n (omega arith) j) n (first_alike w f g l n (λ i b. h i (omega arith)) j))

module _ (palette : List Matrix) (joints : List (List ℕ)) (weights : List Vector) where
  abbrev jointed : ℕ → Option Matrix
  jointed i = joint_matrix palette joints weights i

  -- one vertex more
  module _ (k n : ℕ) (m : Option Matrix) (e : m ≡ jointed (k + n)) where
    pub next_row : (w : ℕ) (f : Matrix → Vector → Vector) (l here left : List Float) → left ≡ row_changed w (by_matrix f m) (k + n) here → here ≡ rows_from w (λ i. by_matrix f (jointed (k + i))) k l n
        → left ≡ rows_from w (λ i. by_matrix f (jointed (k + i))) k l (n + 1)
    next_row w f l here left s h = next-from w (λ i. by_matrix f (jointed (k + i))) k l here left n (s ∙ ap (λ (x : Option Matrix). row_changed w (by_matrix f x) (k + n) here) e) h

    pub next-vertex : (lp p p' ln o o' lt t t' : List Float) → MovedFrom palette joints weights k n lp p ln o lt t → Skinned m (k + n) p p' o o' t t' → MovedFrom palette joints weights k (n + 1) lp p' ln o' lt t'
    next-vertex lp p p' ln o o' lt t t' f s = record {
      positions = next_row 3 affine_point lp p p' s.positions f.positions;
      normals = next_row 3 (λ m y. turned_normal (inverse_transpose m) y) ln o o' s.normals f.normals;
      tangents = next_row 4 turned_tangent lt t t' s.tangents f.tangents;
    }

  pub none_from : (k : ℕ) (lp ln lt : List Float) → MovedFrom palette joints weights k 0 lp lp ln ln lt lt
  unfolding rows_from
  none_from k lp ln lt = record { positions = refl; normals = refl; tangents = refl }

  pub none_first : (lp ln lt : List Float) → FirstMoved palette joints weights 0 lp lp ln ln lt lt
  unfolding first_rows
  none_first lp ln lt = record { positions = refl; normals = refl; tangents = refl }

  pub next-sixteen : (b : ℕ) (lp p p' ln o o' lt t t' : List Float) → FirstMoved palette joints weights (b * 16) lp p ln o lt t → MovedFrom palette joints weights (b * 16) 16 p p' o o' t t'
      → FirstMoved palette joints weights ((b + 1) * 16) lp p' ln o' lt t'
  next-sixteen b lp p p' ln o o' lt t t' f s = record {
    positions = next-block 3 (λ i. by_matrix affine_point (jointed i)) lp p p' b s.positions f.positions;
    normals = next-block 3 (λ i. by_matrix (λ m y. turned_normal (inverse_transpose m) y) (jointed i)) ln o o' b s.normals f.normals;
    tangents = next-block 4 (λ i. by_matrix turned_tangent (jointed i)) lt t t' b s.tangents f.tangents;
  }

  -- k of n vertices, then the others
  module _ (k n : ℕ) (h : k ≤ n) where
    -- the matrix of vertex v; entries past the last position have none
    abbrev of_vertex : ℕ → ℕ → Option Matrix
    of_vertex c v = pick (ltb v c) (jointed v) none

    -- an attribute in rows of w, of which each is moved by f
    attribute-done : (w : ℕ) (f : Matrix → Vector → Vector) (l here left : List Float) → ((m : Matrix) (x : Vector) → length x ≡ w → length (f m x) ≡ w)
        → here ≡ first_rows w (λ i. by_matrix f (jointed i)) l k → left ≡ rows_from w (λ i. by_matrix f (jointed (k + i))) k here (n - k)
        → left ≡ over_rows w (indexed 0 (λ i x. by_matrix f (of_vertex n i) x) (rows_in w l)) l
    attribute-done w f l here left keeps s e =
        let c : k + (n - k) ≡ n = omega arith in
        e
        ∙ ap (λ (x : List Float). rows_from w (λ i. by_matrix f (jointed (k + i))) k x (n - k)) s
        ∙ rows-joined w (λ i. by_matrix f (jointed i)) l k (n - k)
        ∙ ap (first_rows w (λ i. by_matrix f (jointed i)) l) c
        ∙ first_alike w (λ i. by_matrix f (jointed i)) (λ i. by_matrix f (of_vertex n i)) l n (λ i b. ap (λ (x : Bool). by_matrix f (pick x (jointed i) none)) (sym (lt-ltb i n b)))
        ∙ rows-done w (λ i. by_matrix f (of_vertex n i)) l
        (λ i b. let e = row-length w l i b in optional-length w f (of_vertex n i) (row w l i) (λ m. keeps m (row w l i) e) e)
        n
        (λ i b g. ap (λ (x : Bool). by_matrix f (pick x (jointed i) none) (row w l i)) (le-ltb i n b))

    all_moved : (lp p p' ln o o' lt t t' : List Float) → n ≡ length lp / 3 → FirstMoved palette joints weights k lp p ln o lt t → MovedFrom palette joints weights k (n - k) p p' o o' t t'
        → Reshaped (skinned palette joints weights (attributes_in lp ln lt)) lp p' ln o' lt t'
    unfolding skinned
    all_moved lp p p' ln o o' lt t t' e f s =
        let q : n ≡ length (rows_in 3 lp) = e ∙ sym (row_count 3 lp) in
        record {
          positions = attribute-done 3 affine_point lp p p' (λ m x h. refl) f.positions s.positions ∙ (λ j. over_rows 3 (indexed 0 (λ i x. by_matrix affine_point (of_vertex (q j) i) x) (rows_in 3 lp)) lp);
          normals =
              attribute-done 3 (λ m y. turned_normal (inverse_transpose m) y) ln o o' (λ m x h. normal-length (inverse_transpose m) x h) f.normals s.normals
              ∙ (λ j. over_rows 3 (indexed 0 (λ i x. by_matrix (λ m y. turned_normal (inverse_transpose m) y) (of_vertex (q j) i) x) (rows_in 3 ln)) ln);
          tangents = attribute-done 4 turned_tangent lt t t' turned-length f.tangents s.tangents ∙ (λ j. over_rows 4 (indexed 0 (λ i x. by_matrix turned_tangent (of_vertex (q j) i) x) (rows_in 4 lt)) lt);
        }

  -- whole blocks, then the rest
  pub blocks-moved : (lp p p' ln o o' lt t t' : List Float) → length p ≡ length lp → FirstMoved palette joints weights (length lp / 3 / 16 * 16) lp p ln o lt t
      → MovedFrom palette joints weights (length p / 3 / 16 * 16) (length p / 3 - length p / 3 / 16 * 16) p p' o o' t t' → Reshaped (skinned palette joints weights (attributes_in lp ln lt)) lp p' ln o' lt t'
  blocks-moved lp p p' ln o o' lt t t' e f s =
      let n = length lp / 3 in
      all_moved (n / 16 * 16) n (div-mul-le_self n 16) lp p p' ln o o' lt t t' refl f (subst (λ (x : ℕ). MovedFrom palette joints weights (x / 3 / 16 * 16) (x / 3 - x / 3 / 16 * 16) p p' o o' t t') e s)
