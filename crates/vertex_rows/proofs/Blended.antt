-- The influences of a vertex, added up one by one, and the vertex that is moved by them. Assumes nothing.
use mathlib.Core.Path.{◌≡◌, refl, sym, ap, subst, ◌∙◌}
use mathlib.Core.Bool.{Bool, true, false, ◌&&◌}
use mathlib.Core.Option.{Option, none, some}
use mathlib.Core.List.{List, [], ◌∷◌, ◌++◌, append-nil}
use Prim.Native.Nat.{ℕ, zero, suc, ◌+◌, ◌*◌, ◌/◌, ◌≤◌, ◌<◌}
use native.Mathlib.Numerals.{add-one}
use native.Mathlib.Omega.{arith}
use lib.Ieee.{Float, nan, lt}
use lib.Ieee.Scale.{finite}
use lib.ListN.{length, get_or, get_elem?, take, drop, replicate}
use lib.Seq.{get_or-take, get_or-drop}
use Rattle.float.specs.F32.{zero32}
use Rattle.model.specs.Lists.{pick, foldl, and_then, row, rows_in}
use Rattle.model.specs.Vector.{Vector, ◌⊙◌, ◌⊞◌}
use Rattle.model.specs.Matrix.{Matrix}
use Rattle.model.specs.Vertices.{Influence, counted, influences, mixture, joint_matrix, affine_point}
use Rattle.model.proofs.ListLaws.{entry-there, entry_past}
use Rattle.model.proofs.Rowwise.{rows_of, row-length}
use Rattle.scene.specs.declared.Mat4.{Mat4}
use Rattle.scene.specs.Values.{matrix_of}
use Rattle.std.proofs.Common as rust
use Rattle.vertex_rows.specs.Rows.{row_changed}
use Rattle.vertex_rows.specs.Blending.{Added, Turned, Skinned}
use Rattle.vertex_rows.proofs.RowSteps.{row_kept}

-- ---- rows that are there, and rows that are not
module _ {A : Type 0} (w : ℕ) (l : List A) (i : ℕ) where
  pub row-there : i < length l / w → get_elem? (rows_in w l) i ≡ some (row w l i)
  row-there h = ap (λ (r : List (List A)). get_elem? r i) (rows_of w l) ∙ entry-there (length l / w) (row w l) i h

  pub row-past : length l / w ≤ i → get_elem? (rows_in w l) i ≡ none
  row-past h = ap (λ (r : List (List A)). get_elem? r i) (rows_of w l) ∙ entry_past (length l / w) (row w l) i h

  row-entry : (d : A) (e : ℕ) → e < w → get_or (row w l i) e d ≡ get_or l (i * w + e) d
  row-entry d e h = get_or-take w (drop (i * w) l) e d h ∙ get_or-drop (i * w) l e d

-- ---- influences, one more
counted-append : (o : Option Matrix) (w : Float) (a b : List Influence) → counted o w (a ++ b) ≡ counted o w a ++ b
counted-append none w a b = refl
counted-append (some m) w a b = go (finite w && lt zero32 w)
  where
    go : (t : Bool) → pick t (record { weight = w; matrix = m } ∷ (a ++ b)) (a ++ b) ≡ pick t (record { weight = w; matrix = m } ∷ a) a ++ b
    go true = refl
    go false = refl

influences-more : (p : List Matrix) (js : List ℕ) (ws : Vector) (e : ℕ) → e < length js → e < length ws
    → influences p (take (suc e) js) (take (suc e) ws) ≡ influences p (take e js) (take e ws) ++ influences p (get_or js e 0 ∷ []) (get_or ws e nan ∷ [])
unfolding influences
influences-more p [] ws e h g = absurd (omega arith)
influences-more p (j ∷ js) [] e h g = absurd (omega arith)
influences-more p (j ∷ js) (w ∷ ws) zero h g = refl
influences-more p (j ∷ js) (w ∷ ws) (suc e) h g =
    ap (counted (get_elem? p j) w) (influences-more p js ws e (omega arith) (omega arith))
    ∙ counted-append (get_elem? p j) w (influences p (take e js) (take e ws)) (influences p (get_or js e 0 ∷ []) (get_or ws e nan ∷ []))

-- ---- added up
abbrev more : Matrix → Influence → Matrix
more m i = m ⊞ i.weight ⊙ i.matrix

foldl-last : (z : Matrix) (is : List Influence) (i : Influence) → foldl more z (is ++ (i ∷ [])) ≡ more (foldl more z is) i
unfolding foldl
foldl-last z [] i = refl
foldl-last z (x ∷ is) i = foldl-last (more z x) is i

has_last : (is : List Influence) (i : Influence) → mixture (is ++ (i ∷ [])) ≡ some (foldl more (replicate 16 zero32) (is ++ (i ∷ [])))
has_last [] i = refl
has_last (x ∷ is) i = refl

-- the sum so far, zeros where nothing is added yet
so-far : (sum : rust.Option Mat4) (is : List Influence) → matrix_of sum ≡ mixture is → (rust.unwrap_or sum (record { m = replicate 16 zero32 })).m ≡ foldl more (replicate 16 zero32) is
unfolding foldl
so-far rust.None [] e = refl
so-far rust.None (i ∷ is) e = cc
so-far (rust.Some x) [] e = cc
so-far (rust.Some x) (i ∷ is) e = cc

-- joint j of a palette, with weight w
module _ (palette : List Float) (j : ℕ) (w : Float) (sum : rust.Option Mat4) where
  abbrev ours : List Influence
  ours = influences (rows_in 16 palette) (j ∷ []) (w ∷ [])

  pub counts-in : (before after : Mat4) (m : Matrix) → j < length palette / 16 → (finite w && lt zero32 w) ≡ true → m ≡ row 16 palette j
      → before ≡ rust.unwrap_or sum (record { m = replicate 16 zero32 }) → after.m ≡ before.m ⊞ w ⊙ m → Added (rows_in 16 palette) j w sum (rust.Some after)
  unfolding influences
  counts-in before after m h t e b s = record { adds = λ is k. go is k }
    where
      i : Influence
      i = record { weight = w; matrix = row 16 palette j }

      alone : ours ≡ i ∷ []
      alone = (λ x. counted (row-there 16 palette j h x) w []) ∙ ap (λ (c : Bool). pick c (i ∷ []) []) t

      go : (is : List Influence) → matrix_of sum ≡ mixture is → some after.m ≡ mixture (is ++ ours)
      go is k =
          ap {B = Option Matrix} some
          (s
          ∙ (λ x. (ap (λ (n : Mat4). n.m) b ∙ so-far sum is k) x ⊞ w ⊙ e x)
          ∙ sym (foldl-last (replicate 16 zero32) is i))
          ∙ sym (ap (λ (l : List Influence). mixture (is ++ l)) alone ∙ has_last is i)

  counts-out : ours ≡ [] → Added (rows_in 16 palette) j w sum sum
  counts-out e = record { adds = λ is k. k ∙ sym (ap (λ (l : List Influence). mixture (is ++ l)) e ∙ ap mixture (append-nil is)) }

  pub past-palette : length palette / 16 ≤ j → Added (rows_in 16 palette) j w sum sum
  unfolding influences
  past-palette h = counts-out (λ x. counted (row-past 16 palette j h x) w [])

  pub no-weight : j < length palette / 16 → (finite w && lt zero32 w) ≡ false → Added (rows_in 16 palette) j w sum sum
  unfolding influences
  no-weight h t = counts-out ((λ x. counted (row-there 16 palette j h x) w []) ∙ ap (λ (c : Bool). pick c (◌∷◌ (record { weight = w; matrix = row 16 palette j }) []) []) t)

-- ---- the row of vertex v
module _ (p : List Matrix) (joints : List ℕ) (weights : List Float) (v : ℕ) where
  abbrev first : ℕ → List Influence
  first e = influences p (take e (row 4 joints v)) (take e (row 4 weights v))

  module _ (h : v < length joints / 4) (g : v < length weights / 4) where
    pub next-influence : (e j : ℕ) (b r : rust.Option Mat4) → e < 4 → matrix_of b ≡ mixture (first e) → j ≡ get_or joints (v * 4 + e) 0 → Added p j (get_or weights (v * 4 + e) nan) b r → matrix_of r ≡ mixture (first (e + 1))
    next-influence e j b r l k q a =
        let u : first e ++ influences p (j ∷ []) (get_or weights (v * 4 + e) nan ∷ []) ≡ first (e + 1)
        = (λ x. first e ++ influences p ((q ∙ sym (row-entry 4 joints v 0 e l)) x ∷ []) (sym (row-entry 4 weights v nan e l) x ∷ []))
        ∙ sym (influences-more p (row 4 joints v) (row 4 weights v) e (omega (arith, row-length 4 joints v h)) (omega (arith, row-length 4 weights v g)))
        ∙ ap first (sym (add-one e)) in
        a.adds (first e) k ∙ ap mixture u

    pub has-rows : mixture (influences p (row 4 joints v) (row 4 weights v)) ≡ joint_matrix p (rows_in 4 joints) (rows_in 4 weights) v
    has-rows = sym (λ x. and_then (row-there 4 joints v h x) (λ js. and_then (row-there 4 weights v g x) (λ ws. mixture (influences p js ws))))

  pub no-joints : length joints / 4 ≤ v → none ≡ joint_matrix p (rows_in 4 joints) (rows_in 4 weights) v
  no-joints h = sym (λ x. and_then (row-past 4 joints v h x) (λ js. and_then (get_elem? (rows_in 4 weights) v) (λ ws. mixture (influences p js ws))))

  pub no-weights : v < length joints / 4 → length weights / 4 ≤ v → none ≡ joint_matrix p (rows_in 4 joints) (rows_in 4 weights) v
  no-weights h g = sym (λ x. and_then (row-there 4 joints v h x) (λ js. and_then (row-past 4 weights v g x) (λ ws. mixture (influences p js ws))))

-- ---- the vertex that is moved by them
module _ (o : rust.Option Mat4) (v : ℕ) (lp ln lt : List Float) where
  pub by-joints : (m : Mat4) (p n t : List Float) → o ≡ rust.Some m → p ≡ row_changed 3 (affine_point m.m) v lp → Turned m.m v ln n lt t → Skinned (matrix_of o) v lp p ln n lt t
  by-joints m p n t a e d = subst (λ (x : rust.Option Mat4). Skinned (matrix_of x) v lp p ln n lt t) (sym a) (record { positions = e; normals = d.normals; tangents = d.tangents })

  pub by-none : o ≡ rust.None → Skinned (matrix_of o) v lp lp ln ln lt lt
  by-none a = subst (λ (x : rust.Option Mat4). Skinned (matrix_of x) v lp lp ln ln lt lt) (sym a) (record { positions = row_kept 3 v lp; normals = row_kept 3 v ln; tangents = row_kept 4 v lt })
