-- Directions that are held back, put in their rows once all sixteen are there. Assumes nothing.
use mathlib.Core.Path.{◌≡◌, refl, sym, ap, ◌∙◌}
use mathlib.Core.Bool.{Bool, true, false, ◌&&◌}
use mathlib.Core.Option.{Option, none, some}
use mathlib.Core.List.{List, [], ◌∷◌, ◌++◌, zip_with}
use Prim.Native.Nat.{ℕ, zero, suc, ◌+◌, ◌/◌, ◌≤◌, ◌<◌}
use native.Mathlib.Omega.{arith}
use lib.Ieee.{Float, neg, add, mul, lt, of_bits}
use lib.Ieee.Scale.{finite}
use lib.ListN.{length, take, drop, take-append-drop, length-append, length-take, length-drop, length-map}
use lib.Seq.{take_all}
use Rattle.float.specs.F32.{zero32}
use Rattle.float.specs.Sqrt.{sqrt_of}
use Rattle.model.specs.Lists.{pick, foldl, or_else, and_then, map_some, row}
use Rattle.model.specs.Vector.{Vector, over, total, dot, norm, normalized}
use Rattle.model.specs.Matrix.{Matrix, linear, turned, determinant, inverse_transpose}
use Rattle.model.specs.Vertices.{by_matrix, turned_unit, turned_normal, turned_tangent}
use Rattle.vertex_rows.specs.Rows.{flipped, row_changed}
use Rattle.transform.specs.Blocks.{xyz_turned, begun, unit_over, rows_from, Packed}
use Rattle.skinning.specs.Holding.{zeros, direction_by, handed}
use Rattle.vertex_rows.proofs.RowSteps.{row_kept}
use Rattle.vertex_rows.proofs.RowLengths.{flipped-length}
use Rattle.transform.proofs.Blocked.{from-lent, from-alike}
use Rattle.transform.proofs.Handed.{three, by-four}
use Rattle.skinning.proofs.Composed.{from-twice, from-absent}

-- ---- lengths of rows
pub direction-length : (l : Option (List Float)) (x : Vector) → length (direction_by l x) ≡ 3
unfolding turned
direction-length none x = refl
direction-length (some l) x = refl

unit-over-length : (w : ℕ) (d v : Vector) → 3 ≤ w → length d ≡ 3 → length v ≡ w → length (unit_over d v) ≡ w
unfolding unit_over begun normalized
unit-over-length w d v h e n =
    omega (arith, length-append (or_else (normalized d) (take 3 v)) (drop 3 v), length-drop 3 v, either (finite (norm d) && lt zero32 (norm d)))
  where
    either : (b : Bool) → length (or_else (pick b (some (over d (norm d))) none) (take 3 v)) ≡ 3
    either true = length-map d _ ∙ e
    either false = omega (arith, length-take 3 v)

pub handed-length : (o : Option Matrix) (v : Vector) → length v ≡ 4 → length (by_matrix handed o v) ≡ 4
unfolding handed
handed-length none v h = h
handed-length (some m) v h = either (lt (determinant m) zero32)
  where
    either : (b : Bool) → length (pick b (flipped v) v) ≡ 4
    either true = flipped-length v h
    either false = h

-- ---- a direction in its row
xyz-unit : (l : List Float) (v : Vector) → unit_over (turned l (take 3 v)) v ≡ xyz_turned l v
unfolding unit_over begun xyz_turned turned_unit
xyz-unit l v = refl

zeros-still : normalized zeros ≡ none
unfolding normalized norm dot total foldl zip_with sqrt_of add mul of_bits lt
zeros-still = refl

unit-still : (v : Vector) → unit_over zeros v ≡ v
unfolding unit_over begun
unit-still v = ap (λ (o : Option Vector). or_else o (take 3 v) ++ drop 3 v) zeros-still ∙ take-append-drop 3 v

pub normal-unit : (o : Option Matrix) (v : Vector) → length v ≡ 3 → unit_over (direction_by (and_then o inverse_transpose) v) v ≡ by_matrix (λ m y. turned_normal (inverse_transpose m) y) o v
normal-unit none v h = unit-still v
normal-unit (some m) v h = go (inverse_transpose m)
  where
    go : (l : Option (List Float)) → unit_over (direction_by l v) v ≡ turned_normal l v
    go none = unit-still v
    go (some l) = ap (λ (x : Vector). unit_over (turned l x) v) (sym (take_all 3 v (omega arith))) ∙ xyz-unit l v ∙ three l v h

pub tangent-unit : (o : Option Matrix) (v : Vector) → length v ≡ 4 → unit_over (direction_by (map_some linear o) (take 3 v)) (by_matrix handed o v) ≡ by_matrix turned_tangent o v
unfolding unit_over begun handed flipped turned_tangent turned_unit
tangent-unit none v h = unit-still v
tangent-unit (some m) v h = by-four (λ v. unit_over (turned (linear m) (take 3 v)) (handed m v) ≡ turned_tangent m v) four v h
  where
    four : (x y z h : Float) → unit_over (turned (linear m) (x ∷ y ∷ z ∷ [])) (handed m (x ∷ y ∷ z ∷ h ∷ [])) ≡ turned_tangent m (x ∷ y ∷ z ∷ h ∷ [])
    four x y z h = either (lt (determinant m) zero32)
      where
        either : (b : Bool) → unit_over (turned (linear m) (x ∷ y ∷ z ∷ [])) (pick b (flipped (x ∷ y ∷ z ∷ h ∷ [])) (x ∷ y ∷ z ∷ h ∷ [])) ≡ turned_unit (linear m) (x ∷ y ∷ z ∷ []) ++ (pick b (neg h) h ∷ [])
        either true = refl
        either false = refl

-- ---- a whole attribute of a block: `early` is done at once, and x is put after that
pub from-still : (w k : ℕ) (l : List Float) (n : ℕ) → l ≡ rows_from w (λ _ v. v) k l n
unfolding rows_from
from-still w k l zero = refl
from-still w k l (suc n) = row_kept w (k + n) l ∙ ap (row_changed w (λ v. v) (k + n)) (from-still w k l n)

module _ (w : ℕ) (early rule : ℕ → Vector → Vector) (x : ℕ → Vector) (h : 3 ≤ w)
    (early-keeps : (i : ℕ) (v : Vector) → length v ≡ w → length (early i v) ≡ w) (keeps : (i : ℕ) (v : Vector) → length v ≡ w → length (rule i v) ≡ w) (three-each : (i : ℕ) → length (x i) ≡ 3)
    (k : ℕ) (lent here left d : List Float) (agrees : (i : ℕ) → k + i < length lent / w → unit_over (x i) (early i (row w lent (k + i))) ≡ rule i (row w lent (k + i))) where
  pub put-after : (whole : Bool) → (whole ≡ true → k + 16 ≤ length lent / w) → (whole ≡ false → length lent / w ≤ k) → here ≡ rows_from w early k lent 16 → (whole ≡ true → Packed 16 x d)
      → left ≡ pick whole (rows_from w (λ i. unit_over (row 3 d i)) k here 16) here → left ≡ rows_from w rule k lent 16
  put-after false all nothing s p e = e ∙ s ∙ sym (from-absent w early k lent 16 (nothing refl)) ∙ from-absent w rule k lent 16 (nothing refl)
  put-after true all nothing s p e =
      let b = all refl in
      e
      ∙ from-alike w (λ i. unit_over (row 3 d i)) (λ i. unit_over (x i)) k here 16 (λ i c v. ap (λ (y : Vector). unit_over y v) ((p refl).each i c))
      ∙ ap (λ (l : List Float). rows_from w (λ i. unit_over (x i)) k l 16) s
      ∙ from-twice w early (λ i. unit_over (x i)) early-keeps (λ i v n. unit-over-length w (x i) v h (three-each i) n) k lent 16 b
      ∙ from-lent w rule keeps k lent (λ i v. unit_over (x i) (early i v)) 16 (λ i c. agrees i (omega arith))
