-- Normals and tangents whose first three floats are turned, and tangents that are flipped after that. Assumes nothing.
use mathlib.Core.Path.{◌≡◌, refl, sym, ap, ◌∙◌}
use mathlib.Core.Bool.{Bool, true, false, not}
use mathlib.Core.List.{List, [], ◌∷◌, ◌++◌, map, append-nil}
use Prim.Native.Nat.{ℕ, ◌/◌}
use native.Mathlib.Omega.{arith}
use lib.Ieee.{Float, nan, neg}
use lib.ListN.{length, get_or, drop}
use lib.Seq.{take_all, take_at, drop-length, get_or-append_seam}
use Rattle.model.specs.Lists.{tabulate, row, rows_in}
use Rattle.model.specs.Vector.{Vector}
use Rattle.model.specs.Vertices.{turned_unit, turned_normal}
use Rattle.model.specs.Attributes.{over_rows}
use Rattle.model.proofs.ListLaws.{length-tabulate}
use Rattle.model.proofs.RowLaws.{Rows}
use Rattle.model.proofs.Rowwise.{rows_of, row-length, map-tabulate, tabulate-alike, each-tabulated, rows-over, over-again}
use Rattle.scene.specs.Values.{mat3, linear_of}
use Rattle.scene.specs.declared.Mat3.{Mat3}
use Rattle.std.proofs.Common as rust
use Rattle.vertex_rows.specs.Rows.{tangent_by, flipped}
use Rattle.vertex_rows.proofs.RowSteps.{each-kept}
use Rattle.vertex_rows.proofs.RowLengths.{unit-length}
use Rattle.transform.specs.Blocks.{xyz_turned}
use Rattle.transform.proofs.Blocked.{xyz-length}

-- rows by two rules that agree on rows
module _ (w : ℕ) (f : Vector → Vector) (l : List Float) where
  mapped : map f (rows_in w l) ≡ tabulate (length l / w) (λ i. f (row w l i))
  mapped = ap (map f) (rows_of w l) ∙ map-tabulate (length l / w) f (row w l)

  pub mapped-rows : ((v : Vector) → length v ≡ w → length (f v) ≡ w) → Rows w (tabulate (length l / w) (λ i. f (row w l i)))
  mapped-rows keeps = each-tabulated _ (length l / w) (λ i. f (row w l i)) (λ i b. keeps (row w l i) (row-length w l i b))

pub rows_alike : (w : ℕ) (f g : Vector → Vector) (l : List Float) → ((v : Vector) → length v ≡ w → f v ≡ g v) → map f (rows_in w l) ≡ map g (rows_in w l)
rows_alike w f g l h = mapped w f l ∙ tabulate-alike (length l / w) _ _ (λ i b. h (row w l i) (row-length w l i b)) ∙ sym (mapped w g l)

-- one rule after the other
twice : (w : ℕ) (f g : Vector → Vector) (l : List Float) → ((v : Vector) → length v ≡ w → length (f v) ≡ w)
    → over_rows w (map g (rows_in w (over_rows w (map f (rows_in w l)) l))) (over_rows w (map f (rows_in w l)) l) ≡ over_rows w (map (λ v. g (f v)) (rows_in w l)) l
twice w f g l keeps =
    let c = length l / w in
    let rows = tabulate c (λ i. f (row w l i)) in
    let h = mapped-rows w f l keeps in
    let n : length rows ≡ length l / w = length-tabulate c _ in
    (λ j. over_rows w (map g (rows_in w (over_rows w (mapped w f l j) l))) (over_rows w (mapped w f l j) l))
    ∙ (λ j. over_rows w (map g (rows-over w rows l h n j)) (over_rows w rows l))
    ∙ over-again w rows l h n (map g rows)
    ∙ ap (λ (r : List Vector). over_rows w r l) (map-tabulate c g (λ i. f (row w l i)) ∙ sym (mapped w (λ v. g (f v)) l))

pub three : (m : List Float) (v : Vector) → length v ≡ 3 → xyz_turned m v ≡ turned_unit m v
unfolding xyz_turned
three m v h =
    let d : drop 3 v ≡ [] = ap (λ (n : ℕ). drop n v) (sym h) ∙ drop-length v in
    (λ j. turned_unit m (take_all 3 v (omega arith) j) ++ d j) ∙ append-nil (turned_unit m v)

four : (m : List Float) (x y z h : Float) → xyz_turned m (x ∷ y ∷ z ∷ h ∷ []) ≡ tangent_by m false (x ∷ y ∷ z ∷ h ∷ [])
unfolding xyz_turned tangent_by
four m x y z h = refl

four-flipped : (m : List Float) (x y z h : Float) → flipped (xyz_turned m (x ∷ y ∷ z ∷ h ∷ [])) ≡ tangent_by m true (x ∷ y ∷ z ∷ h ∷ [])
unfolding xyz_turned tangent_by flipped
four-flipped m x y z h =
    let u = turned_unit m (x ∷ y ∷ z ∷ []) in
    let n : length u ≡ 3 = unit-length m (x ∷ y ∷ z ∷ []) refl in
    let e : get_or (u ++ (h ∷ [])) 3 nan ≡ h = ap (λ (k : ℕ). get_or (u ++ (h ∷ [])) k nan) (sym n) ∙ get_or-append_seam u h [] nan in
    (λ j. take_at u (h ∷ []) 3 n j ++ (neg (e j) ∷ []))

pub by-four : (P : Vector → Type 0) → ((x y z h : Float) → P (x ∷ y ∷ z ∷ h ∷ [])) → (v : Vector) → length v ≡ 4 → P v
by-four P k [] e = absurd (omega arith)
by-four P k (x ∷ []) e = absurd (omega arith)
by-four P k (x ∷ y ∷ []) e = absurd (omega arith)
by-four P k (x ∷ y ∷ z ∷ []) e = absurd (omega arith)
by-four P k (x ∷ y ∷ z ∷ h ∷ []) e = k x y z h
by-four P k (x ∷ y ∷ z ∷ h ∷ i ∷ v) e = absurd (omega arith)

module _ (m lent here : List Float) (mirror : Bool) (turns : here ≡ over_rows 4 (map (xyz_turned m) (rows_in 4 lent)) lent) where
  pub tangents-turned : not mirror ≡ true → here ≡ over_rows 4 (map (tangent_by m mirror) (rows_in 4 lent)) lent
  tangents-turned t =
      turns
      ∙ ap (λ (r : List Vector). over_rows 4 r lent) (rows_alike 4 (xyz_turned m) (tangent_by m false) lent (by-four (λ v. xyz_turned m v ≡ tangent_by m false v) (four m)))
      ∙ ap (λ (b : Bool). over_rows 4 (map (tangent_by m b) (rows_in 4 lent)) lent) (plain mirror t)
    where
      plain : (b : Bool) → not b ≡ true → false ≡ b
      plain true e = e
      plain false e = refl

  pub tangents-flipped : (left : List Float) → not mirror ≡ false → left ≡ over_rows 4 (map flipped (rows_in 4 here)) here → left ≡ over_rows 4 (map (tangent_by m mirror) (rows_in 4 lent)) lent
  tangents-flipped left t e =
      e
      ∙ (λ j. over_rows 4 (map flipped (rows_in 4 (turns j))) (turns j))
      ∙ twice 4 (xyz_turned m) flipped lent (λ v h. xyz-length 4 m v (omega arith) h)
      ∙ ap (λ (r : List Vector). over_rows 4 r lent) (rows_alike 4 (λ v. flipped (xyz_turned m v)) (tangent_by m true) lent (by-four (λ v. flipped (xyz_turned m v) ≡ tangent_by m true v) (four-flipped m)))
      ∙ ap (λ (b : Bool). over_rows 4 (map (tangent_by m b) (rows_in 4 lent)) lent) (mirrors mirror t)
    where
      mirrors : (b : Bool) → not b ≡ false → true ≡ b
      mirrors true e = refl
      mirrors false e = e

-- normals by a normal matrix n
module _ (n : rust.Option Mat3) (lent : List Float) where
  pub normals-turned : (l : Mat3) (left : List Float) → n ≡ rust.Some l → left ≡ over_rows 3 (map (xyz_turned (mat3 l)) (rows_in 3 lent)) lent → left ≡ over_rows 3 (map (turned_normal (linear_of n)) (rows_in 3 lent)) lent
  normals-turned l left e p =
      p
      ∙ ap (λ (r : List Vector). over_rows 3 r lent) (rows_alike 3 (xyz_turned (mat3 l)) (turned_unit (mat3 l)) lent (three (mat3 l)))
      ∙ sym (ap (λ (x : rust.Option Mat3). over_rows 3 (map (turned_normal (linear_of x)) (rows_in 3 lent)) lent) e)

  pub normals-left : n ≡ rust.None → lent ≡ over_rows 3 (map (turned_normal (linear_of n)) (rows_in 3 lent)) lent
  normals-left e = each-kept 3 lent ∙ sym (ap (λ (x : rust.Option Mat3). over_rows 3 (map (turned_normal (linear_of x)) (rows_in 3 lent)) lent) e)
