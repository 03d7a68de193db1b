-- Rows from one on that are changed by two rules, one after the other. Assumes nothing.
use mathlib.Core.Path.{◌≡◌, refl, sym, ap, ◌∙◌}
use mathlib.Core.List.{List, ◌++◌}
use Prim.Native.Nat.{ℕ, zero, suc, ◌+◌, ◌*◌, ◌/◌, ◌≤◌, ◌<◌}
use native.Mathlib.Nat.{suc-mul, mul-le-mul_right, add-zero}
use native.Mathlib.Omega.{arith}
use borrow.Author.Count.{below_more}
use lib.Ieee.{Float}
use lib.ListN.{length, take, take-append-drop}
use lib.Seq.{paste, take-add, length-paste}
use Rattle.model.specs.Lists.{row}
use Rattle.model.specs.Vector.{Vector}
use Rattle.model.proofs.Rowwise.{row_ends, row-length}
use Rattle.vertex_rows.specs.Rows.{row_changed}
use Rattle.transform.specs.Blocks.{rows_from}
use Rattle.vertex_rows.proofs.RowSteps.{row-changed, row-absent}
use Rattle.transform.proofs.Packing.{part-before, part-here}
use Rattle.transform.proofs.Blocked.{ahead}

-- ---- one row, which is there
module _ (w : ℕ) (f : Vector → Vector) (keeps : (v : Vector) → length v ≡ w → length (f v) ≡ w) (j : ℕ) (l : List Float) (h : j < length l / w) where
  pasted : row_changed w f j l ≡ paste l (j * w) (f (row w l j)) w
  pasted = sym (row-changed w f j l _ (f (row w l j)) (row w l j) h refl refl refl)

  new-length : length (f (row w l j)) ≡ w
  new-length = keeps (row w l j) (row-length w l j h)

  changed-length : length (row_changed w f j l) ≡ length l
  changed-length = ap length pasted ∙ length-paste l (j * w) (f (row w l j)) w (row_ends w l j h) (omega (arith, new-length))

  row_here : row w (row_changed w f j l) j ≡ f (row w l j)
  row_here = ap (λ (x : List Float). row w x j) pasted ∙ part-here l (j * w) (f (row w l j)) w (omega (arith, row_ends w l j h)) new-length

  row_before : (i : ℕ) → i < j → row w (row_changed w f j l) i ≡ row w l i
  row_before i b = ap (λ (x : List Float). row w x i) pasted ∙ part-before l (j * w) (f (row w l j)) w (omega (arith, row_ends w l j h)) (i * w) w (omega (arith, suc-mul i w, mul-le-mul_right w b))

  front-before : (i : ℕ) → i ≤ j → take (i * w) (row_changed w f j l) ≡ take (i * w) l
  front-before i b = ap (take (i * w)) pasted ∙ part-before l (j * w) (f (row w l j)) w (omega (arith, row_ends w l j h)) 0 (i * w) (omega (arith, mul-le-mul_right w b))

-- ---- rows from k on, which are there
module _ (w : ℕ) (f : ℕ → Vector → Vector) (keeps : (i : ℕ) (v : Vector) → length v ≡ w → length (f i v) ≡ w) (k : ℕ) (l : List Float) where
  from-length : (n : ℕ) → k + n ≤ length l / w → length (rows_from w f k l n) ≡ length l
  unfolding rows_from
  from-length zero h = refl
  from-length (suc n) h =
      let e = from-length n (omega arith) in
      changed-length w (f n) (keeps n) (k + n) (rows_from w f k l n) (rw e (omega arith)) ∙ e

  from_front : (n : ℕ) → k + n ≤ length l / w → take (k * w) (rows_from w f k l n) ≡ take (k * w) l
  unfolding rows_from
  from_front zero h = refl
  from_front (suc n) h =
      front-before w (f n) (keeps n) (k + n) (rows_from w f k l n) (rw (from-length n (omega arith)) (omega arith)) k (omega arith) ∙ from_front n (omega arith)

  from_row : (n : ℕ) → k + n ≤ length l / w → (i : ℕ) → i < n → row w (rows_from w f k l n) (k + i) ≡ f i (row w l (k + i))
  unfolding rows_from
  from_row zero h i b = absurd (omega arith)
  from_row (suc n) h i b =
      let m = rows_from w f k l n in
      let t : k + n < length m / w = rw (from-length n (omega arith)) (omega arith) in
      below_more (λ j. row w (row_changed w (f n) (k + n) m) (k + j) ≡ f j (row w l (k + j))) n
      (λ j c. row_before w (f n) (keeps n) (k + n) m t (k + j) (omega arith) ∙ from_row n (omega arith) j c)
      (row_here w (f n) (keeps n) (k + n) m t ∙ ap (f n) (ap (take w) (ahead w f keeps k l n (k + n) (omega arith))))
      i (omega arith)

-- ---- two lists by their rows
rows_same : (w k : ℕ) (a b : List Float) → take (k * w) a ≡ take (k * w) b → (n : ℕ) → ((i : ℕ) → i < n → row w a (k + i) ≡ row w b (k + i)) → take ((k + n) * w) a ≡ take ((k + n) * w) b
rows_same w k a b e zero h = (λ j. take (add-zero k j * w) a) ∙ e ∙ sym (λ j. take (add-zero k j * w) b)
rows_same w k a b e (suc n) h =
    let z : k + suc n ≡ suc (k + n) = omega arith in
    let s : (k + suc n) * w ≡ (k + n) * w + w = ap (λ (x : ℕ). x * w) z ∙ suc-mul (k + n) w in
    ap (λ (x : ℕ). take x a) s
    ∙ take-add ((k + n) * w) w a
    ∙ (λ j. rows_same w k a b e n (λ i c. h i (omega arith)) j ++ h n (omega arith) j)
    ∙ sym (take-add ((k + n) * w) w b)
    ∙ sym (ap (λ (x : ℕ). take x b) s)

pub from-twice : (w : ℕ) (f g : ℕ → Vector → Vector) → ((i : ℕ) (v : Vector) → length v ≡ w → length (f i v) ≡ w) → ((i : ℕ) (v : Vector) → length v ≡ w → length (g i v) ≡ w)
    → (k : ℕ) (l : List Float) (n : ℕ) → k + n ≤ length l / w → rows_from w g k (rows_from w f k l n) n ≡ rows_from w (λ i v. g i (f i v)) k l n
from-twice w f g p q k l n h =
    let m = rows_from w f k l n in
    let r : (i : ℕ) (v : Vector) → length v ≡ w → length (g i (f i v)) ≡ w = λ i v e. q i (f i v) (p i v e) in
    let t : k + n ≤ length m / w = rw (from-length w f p k l n h) h in
    let front = from_front w g q k m n t ∙ from_front w f p k l n h ∙ sym (from_front w (λ i v. g i (f i v)) r k l n h) in
    let rest = ahead w g q k m n (k + n) (omega arith) ∙ ahead w f p k l n (k + n) (omega arith) ∙ sym (ahead w (λ i v. g i (f i v)) r k l n (k + n) (omega arith)) in
    let rows = rows_same w k (rows_from w g k m n) (rows_from w (λ i v. g i (f i v)) k l n) front n
    (λ i b. from_row w g q k m n t i b ∙ ap (g i) (from_row w f p k l n h i b) ∙ sym (from_row w (λ i v. g i (f i v)) r k l n h i b)) in
    sym (take-append-drop ((k + n) * w) (rows_from w g k m n)) ∙ (λ j. rows j ++ rest j) ∙ take-append-drop ((k + n) * w) (rows_from w (λ i v. g i (f i v)) k l n)

-- rows that are not there
pub from-absent : (w : ℕ) (f : ℕ → Vector → Vector) (k : ℕ) (l : List Float) (n : ℕ) → length l / w ≤ k → l ≡ rows_from w f k l n
unfolding rows_from
from-absent w f k l zero h = refl
from-absent w f k l (suc n) h = row-absent w (f n) (k + n) l (omega arith) ∙ ap (row_changed w (f n) (k + n)) (from-absent w f k l n h)
