-- The loops that add deltas: what a turn does, and what all turns come to. Assumes nothing.
use mathlib.Core.Path.{◌≡◌, refl, sym, ap, ◌∙◌}
use mathlib.Core.Bool.{Bool}
use mathlib.Core.List.{List, [], ◌∷◌, ◌++◌, zip_with, append_assoc}
use Prim.Native.Nat.{ℕ, suc, ◌+◌, ◌*◌, ◌/◌, ◌≤◌, ◌<◌, min}
use native.Mathlib.Decide.{dec_lt}
use native.Mathlib.Omega.{arith}
use borrow.Author.Tests.{lt-ltb, le-ltb}
use lib.Dec.{ltb}
use lib.Ieee.{Float, nan}
use lib.ListN.{length, get_or, take, drop, set, get_or-eq_default}
use lib.Seq.{paste, sets-eq, drop-cons, get_or-take, get_or-drop}
use Rattle.float.specs.F32.{◌⊕◌, ◌⊖◌, ◌⊗◌, zero32}
use Rattle.model.specs.Lists.{pick, joined, tabulate, row, rows_in}
use Rattle.model.specs.Vector.{Vector, ◌⊙◌, ◌⊞◌}
use Rattle.model.specs.Morph.{with_deltas}
use Rattle.model.specs.Attributes.{over_rows}
use Rattle.model.proofs.ListLaws.{get_d_tabulate}
use Rattle.model.proofs.Rowwise.{up_to, none_done, row_done, next_row, length-kept, tabulate-alike, row_ends, row_count}
use Rattle.deltas.specs.Mixed.{row_or_zeros, mixed_in}
use Rattle.deltas.proofs.Floatwise.{done_to, part-tabulated, by_rows}
use Rattle.deltas.proofs.DeltaLaws.{deltas-by-rows}

-- three numbers from the one at `at` on
abbrev three_of : (ℕ → Float) → ℕ → Vector
three_of f at = f (at + 0) ∷ f (at + 1) ∷ f (at + 2) ∷ []

three : (f : ℕ → Float) (at : ℕ) → tabulate 3 (λ j. f (at + j)) ≡ three_of f at
unfolding tabulate
three f at = refl

module _ (l : List Float) (i : ℕ) (b : i < length l / 3) where
  row-of-three : row 3 l i ≡ three_of (λ k. get_or l k nan) (i * 3)
  row-of-three = part-tabulated l (i * 3) 3 nan (row_ends 3 l i b) ∙ three (λ k. get_or l k nan) (i * 3)

-- ---- w times a delta

abbrev pub scaled : Float → List Float → ℕ → Float → Float
scaled w ds k x = x ⊕ w ⊗ get_or ds k nan

pub scaled-rows : (w : Float) (l ds : List Float) → done_to (scaled w ds) nan l (min (length l / 3) (length ds / 3) * 3) ≡ over_rows 3 (with_deltas (λ v d. v ⊞ w ⊙ d) (rows_in 3 l) (rows_in 3 ds)) l
unfolding rows_in tabulate zip_with
scaled-rows w l ds =
    let m = min (length l / 3) (length ds / 3) in
    by_rows (scaled w ds) nan l 3 m (λ i r. r ⊞ w ⊙ row 3 ds i) (λ i h. sym (λ j. row-of-three l i (omega arith) j ⊞ w ⊙ row-of-three ds i (omega arith) j))
    ∙ sym (deltas-by-rows 3 l (λ v d. v ⊞ w ⊙ d) (length ds / 3) (row 3 ds))

-- ---- between two stations

-- float k of the first n; zero past these
abbrev pub float_or_zero : List Float → ℕ → ℕ → Float
float_or_zero l n k = pick (ltb k n) (get_or l k nan) zero32

module _ (l : List Float) (i : ℕ) where
  row-or-zeros : row_or_zeros l i ≡ three_of (float_or_zero l (length l / 3 * 3)) (i * 3)
  unfolding rows_in
  row-or-zeros = elim (dec_lt i (length l / 3)) [
    | yes h ↦
        let e : (j : ℕ) → j < 3 → get_or l (i * 3 + j) nan ≡ float_or_zero l (length l / 3 * 3) (i * 3 + j)
        = λ j b. ap (λ (c : Bool). pick c (get_or l (i * 3 + j) nan) zero32) (sym (lt-ltb (i * 3 + j) (length l / 3 * 3) (omega arith))) in
        get_d_tabulate (length l / 3) (row 3 l) i _ h ∙ row-of-three l i h ∙ (λ j. e 0 (omega arith) j ∷ e 1 (omega arith) j ∷ e 2 (omega arith) j ∷ [])
    | no h ↦
        let e : (j : ℕ) → zero32 ≡ float_or_zero l (length l / 3 * 3) (i * 3 + j)
        = λ j. ap (λ (c : Bool). pick c (get_or l (i * 3 + j) nan) zero32) (sym (le-ltb (i * 3 + j) (length l / 3 * 3) (omega arith))) in
        get_or-eq_default (rows_in 3 l) _ {n = i} (omega (arith, row_count 3 l)) ∙ (λ j. e 0 j ∷ e 1 j ∷ e 2 j ∷ [])
  ]

abbrev pub mixed_float : Float → List Float → ℕ → List Float → ℕ → ℕ → Float → Float
mixed_float t low n high m k x = x ⊕ (float_or_zero low n k ⊕ t ⊗ (float_or_zero high m k ⊖ float_or_zero low n k))

pub mixed-rows : (t : Float) (l low high : List Float) (count : ℕ) → done_to (mixed_float t low (length low / 3 * 3) high (length high / 3 * 3)) nan l (min (length l / 3) count * 3) ≡ over_rows 3 (with_deltas ◌⊞◌ (rows_in 3 l) (tabulate count (mixed_in t low high))) l
unfolding tabulate zip_with
mixed-rows t l low high count =
    let m = min (length l / 3) count in
    by_rows (mixed_float t low (length low / 3 * 3) high (length high / 3 * 3)) nan l 3 m (λ i r. r ⊞ mixed_in t low high i) (λ i h. sym (λ j. row-of-three l i (omega arith) j ⊞ (row-or-zeros low i j ⊞ t ⊙ zip_with ◌⊖◌ (row-or-zeros high i j) (row-or-zeros low i j))))
    ∙ sym (deltas-by-rows 3 l ◌⊞◌ count (mixed_in t low high))

-- ---- tangents: the fourth number stays

abbrev pub with_xyz : Float → List Float → ℕ → Vector → Vector
with_xyz w ds at r =
    (get_or r 0 nan ⊕ w ⊗ get_or ds at nan)
    ∷ (get_or r 1 nan ⊕ w ⊗ get_or ds (at + 1) nan)
    ∷ (get_or r 2 nan ⊕ w ⊗ get_or ds (at + 2) nan)
    ∷ get_or r 3 nan
    ∷ []

-- three numbers of a row of four written
three-set : (l : List Float) (at : ℕ) (x y z : Float) → at + 4 ≤ length l → set (set (set l at x) (at + 1) y) (at + 2) z ≡ paste l at (x ∷ y ∷ z ∷ get_or l (at + 3) nan ∷ []) 4
three-set l at x y z h =
    let a : at + 1 ≡ suc at = omega arith in
    let b : at + 2 ≡ suc (suc at) = omega arith in
    let c : suc (at + 3) ≡ at + 4 = omega arith in
    let front = take at l ++ (x ∷ y ∷ z ∷ []) in
    (λ j. set (set (set l at x) (a j) y) (b j) z)
    ∙ sets-eq (x ∷ y ∷ z ∷ []) l at (omega arith)
    ∙ ap (λ (r : List Float). front ++ r) (drop-cons l (at + 3) nan (omega arith) ∙ ap (λ (k : ℕ). get_or l (at + 3) nan ∷ drop k l) c)
    ∙ append_assoc (take at l) (x ∷ y ∷ z ∷ []) (get_or l (at + 3) nan ∷ drop (at + 4) l)
    ∙ sym (append_assoc (take at l) (x ∷ y ∷ z ∷ get_or l (at + 3) nan ∷ []) (drop (at + 4) l))

module _ (w : Float) (l ds : List Float) where
  abbrev pub xyz_done : ℕ → List Float
  xyz_done k = up_to 4 (λ i r. with_xyz w ds (i * 3) r) l k

  pub none-moved : xyz_done 0 ≡ l
  none-moved = none_done 4 (λ i r. with_xyz w ds (i * 3) r) l

  pub xyz-length : (k : ℕ) → k ≤ length l / 4 → length (xyz_done k) ≡ length l
  xyz-length k h = length-kept 4 (λ i r. with_xyz w ds (i * 3) r) l (λ i b. refl) k h

  pub xyz-step : (left : List Float) (k : ℕ) → left ≡ xyz_done k → k < length l / 4
      → set (set (set left (k * 4) (get_or left (k * 4) nan ⊕ w ⊗ get_or ds (k * 3) nan)) (k * 4 + 1) (get_or left (k * 4 + 1) nan ⊕ w ⊗ get_or ds (k * 3 + 1) nan)) (k * 4 + 2) (get_or left (k * 4 + 2) nan ⊕ w ⊗ get_or ds (k * 3 + 2) nan)
      ≡ xyz_done (k + 1)
  xyz-step left k e h =
      let f : ℕ → Vector → Vector = λ i r. with_xyz w ds (i * 3) r in
      let n : length left ≡ length l = ap length e ∙ xyz-length k (omega arith) in
      let own : (j : ℕ) → j < 4 → get_or left (k * 4 + j) nan ≡ get_or (row 4 left k) j nan
      = λ j b. sym (get_or-take 4 (drop (k * 4) left) j nan b ∙ get_or-drop (k * 4) left j nan) in
      let z : k * 4 ≡ k * 4 + 0 = omega arith in
      let v : with_xyz w ds (k * 3) (row 4 left k) ≡ f k (row 4 l k) = ap (λ (m : List Float). f k (row 4 m k)) e ∙ ap (f k) (next_row 4 f l (λ i b. refl) k h) in
      three-set left (k * 4) _ _ _ (omega (arith, row_ends 4 l k h))
      ∙ (λ i. paste left (k * 4) (((ap (λ (m : ℕ). get_or left m nan) z ∙ own 0 (omega arith)) i ⊕ w ⊗ get_or ds (k * 3) nan) ∷ (own 1 (omega arith) i ⊕ w ⊗ get_or ds (k * 3 + 1) nan) ∷ (own 2 (omega arith) i ⊕ w ⊗ get_or ds (k * 3 + 2) nan) ∷ own 3 (omega arith) i ∷ []) 4)
      ∙ (λ i. paste (e i) (k * 4) (v i) 4)
      ∙ row_done 4 f l (λ i b. refl) k h

  row-of-four : (i : ℕ) → i < length l / 4 → row 4 l i ≡ get_or l (i * 4 + 0) nan ∷ get_or l (i * 4 + 1) nan ∷ get_or l (i * 4 + 2) nan ∷ get_or l (i * 4 + 3) nan ∷ []
  unfolding tabulate
  row-of-four i b = part-tabulated l (i * 4) 4 nan (row_ends 4 l i b)

  pub xyz-rows : xyz_done (min (length l / 4) (length ds / 3)) ≡ over_rows 4 (with_deltas (λ v d. (take 3 v ⊞ w ⊙ d) ++ drop 3 v) (rows_in 4 l) (rows_in 3 ds)) l
  unfolding rows_in up_to zip_with
  xyz-rows =
      let m = min (length l / 4) (length ds / 3) in
      let moved : (i : ℕ) → i < m → with_xyz w ds (i * 3) (row 4 l i) ≡ (take 3 (row 4 l i) ⊞ w ⊙ row 3 ds i) ++ drop 3 (row 4 l i)
      = λ i h.
      let r = row-of-four i (omega arith) in
      let d = row-of-three ds i (omega arith) in
      let z : i * 3 ≡ i * 3 + 0 = omega arith in
      ap (with_xyz w ds (i * 3)) r
      ∙ ap (λ (k : ℕ). (get_or l (i * 4 + 0) nan ⊕ w ⊗ get_or ds k nan) ∷ (get_or l (i * 4 + 1) nan ⊕ w ⊗ get_or ds (i * 3 + 1) nan) ∷ (get_or l (i * 4 + 2) nan ⊕ w ⊗ get_or ds (i * 3 + 2) nan) ∷ get_or l (i * 4 + 3) nan ∷ []) z
      ∙ sym (λ j. (take 3 (r j) ⊞ w ⊙ d j) ++ drop 3 (r j)) in
      ap (λ (rows : List Vector). joined (λ r. r) rows ++ drop (m * 4) l) (tabulate-alike m _ _ moved)
      ∙ sym (deltas-by-rows 4 l (λ v d. (take 3 v ⊞ w ⊙ d) ++ drop 3 v) (length ds / 3) (row 3 ds))
