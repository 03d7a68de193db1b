-- Deltas added to the rows of a flat slice. Assumes nothing.
use mathlib.Core.Path.{◌≡◌, refl, sym, ap, ◌∙◌}
use mathlib.Core.List.{List, [], ◌∷◌, ◌++◌, zip_with, append_assoc}
use Prim.Native.Nat.{ℕ, zero, suc, ◌+◌, ◌*◌, ◌/◌, ◌≤◌, min}
use native.Mathlib.Nat.{suc-mul, div-mul-le_self, zero-mul}
use native.Mathlib.Omega.{arith}
use lib.Ieee.{Float, nan}
use lib.ListN.{length, get_or, drop, take-append-drop}
use lib.Seq.{drop-append-add}
use Rattle.model.specs.Lists.{joined, tabulate, row, rows_in}
use Rattle.model.specs.Vector.{Vector}
use Rattle.model.specs.Morph.{with_deltas}
use Rattle.model.specs.Attributes.{over_rows}
use Rattle.model.proofs.ListLaws.{length-tabulate}
use Rattle.model.proofs.RowLaws.{flat, Rows}
use Rattle.model.proofs.Rowwise.{up_to, tabulate-alike, row_ends, rows-in}
use Rattle.deltas.proofs.Floatwise.{part-tabulated, done_to, by_rows}

-- ---- deltas of a list
pub no-deltas : (f : Vector → Vector → Vector) (vs : List Vector) → with_deltas f vs [] ≡ vs
unfolding with_deltas
no-deltas f [] = refl
no-deltas f (v ∷ vs) = refl

zipped-and-rest : (f : Vector → Vector → Vector) (vs ds : List Vector) → with_deltas f vs ds ≡ zip_with f vs ds ++ drop (length ds) vs
unfolding with_deltas zip_with
zipped-and-rest f [] [] = refl
zipped-and-rest f [] (d ∷ ds) = refl
zipped-and-rest f (v ∷ vs) [] = refl
zipped-and-rest f (v ∷ vs) (d ∷ ds) = ap (λ (l : List Vector). f v d ∷ l) (zipped-and-rest f vs ds)

zip-tabulated : {A B C : Type 0} (f : A → B → C) (n b : ℕ) (p : ℕ → A) (q : ℕ → B) → zip_with f (tabulate n p) (tabulate b q) ≡ tabulate (min n b) (λ i. f (p i) (q i))
unfolding zip_with tabulate
zip-tabulated f zero b p q = let z : 0 ≡ min 0 b = omega arith in ap (λ (n : ℕ). tabulate n (λ i. f (p i) (q i))) z
zip-tabulated f (suc n) zero p q = let z : 0 ≡ min (suc n) 0 = omega arith in ap (λ (n : ℕ). tabulate n (λ i. f (p i) (q i))) z
zip-tabulated f (suc n) (suc b) p q =
    let s : suc (min n b) ≡ min (suc n) (suc b) = omega arith in
    ap (λ (l : List _). f (p 0) (q 0) ∷ l) (zip-tabulated f n b (λ i. p (suc i)) (λ i. q (suc i))) ∙ ap (λ (k : ℕ). tabulate k (λ i. f (p i) (q i))) s

-- ---- rows past the first few
module _ (w : ℕ) where
  flat-drop : (l : List (List Float)) (b : ℕ) (rest : List Float) → Rows w l → flat (drop b l) ++ rest ≡ drop (min (length l) b * w) (flat l ++ rest)
  unfolding joined
  flat-drop [] b rest h = let z : 0 ≡ min 0 b * w = omega (arith, zero-mul w, ap (λ (k : ℕ). k * w) (least_zero b)) in empty b ∙ ap (λ (k : ℕ). drop k rest) z
    where
      least_zero : (b : ℕ) → min 0 b ≡ 0
      least_zero b = omega arith

      empty : (b : ℕ) → flat (drop b []) ++ rest ≡ rest
      empty zero = refl
      empty (suc b) = refl
  flat-drop (r ∷ l) zero rest h = let z : min (length (r ∷ l)) 0 ≡ 0 = omega arith in sym (ap (λ (k : ℕ). drop (k * w) (flat (r ∷ l) ++ rest)) z ∙ ap (λ (k : ℕ). drop k (flat (r ∷ l) ++ rest)) (zero-mul w))
  flat-drop (r ∷ l) (suc b) rest (e, h) =
      let n = min (length l) b in
      let s : min (length (r ∷ l)) (suc b) ≡ suc n = omega arith in
      let o : suc n * w ≡ length r + n * w = omega (arith, suc-mul n w) in
      flat-drop l b rest h
      ∙ sym (drop-append-add r (flat l ++ rest) (n * w))
      ∙ ap (drop (length r + n * w)) (sym (append_assoc r (flat l) rest))
      ∙ ap (λ (k : ℕ). drop k (flat (r ∷ l) ++ rest)) (sym o)
      ∙ ap (λ (k : ℕ). drop (k * w) (flat (r ∷ l) ++ rest)) (sym s)

  flat_append : (a b : List (List Float)) (rest : List Float) → flat (a ++ b) ++ rest ≡ flat a ++ (flat b ++ rest)
  unfolding joined
  flat_append [] b rest = refl
  flat_append (r ∷ a) b rest =
      append_assoc r (flat (a ++ b)) rest ∙ ap (λ (l : List Float). r ++ l) (flat_append a b rest) ∙ sym (append_assoc r (flat a) (flat b ++ rest))

  module _ (l : List Float) where
    as_it_was : (k : ℕ) → k ≤ length l → done_to (λ i x. x) nan l k ≡ l
    unfolding done_to
    as_it_was k h =
        let z : 0 + k ≤ length l = omega arith in
        let e : (i : ℕ) → i ≡ 0 + i = λ i. omega arith in
        ap (λ (front : List Float). front ++ drop k l) (tabulate-alike k _ _ (λ i c. ap (λ (j : ℕ). get_or l j nan) (e i)) ∙ sym (part-tabulated l 0 k nan z))
        ∙ take-append-drop k l

    -- the rows of a slice, with what lies past them, are the slice
    pub over-own : over_rows w (rows_in w l) l ≡ l
    unfolding rows_in up_to
    over-own =
        let n = length l / w in
        sym (by_rows (λ i x. x) nan l w n (λ i r. r) (λ i c. sym (part-tabulated l (i * w) w nan (row_ends w l i c))))
        ∙ as_it_was (n * w) (div-mul-le_self (length l) w)

    -- deltas added row by row
    pub deltas-by-rows : (f : Vector → Vector → Vector) (b : ℕ) (q : ℕ → Vector) → over_rows w (with_deltas f (rows_in w l) (tabulate b q)) l ≡ up_to w (λ i r. f r (q i)) l (min (length l / w) b)
    unfolding rows_in up_to
    deltas-by-rows f b q =
        let n = length l / w in
        let rows = tabulate n (row w l) in
        let rest = drop (n * w) l in
        let m = min n b in
        let e : with_deltas f rows (tabulate b q) ≡ tabulate m (λ i. f (row w l i) (q i)) ++ drop b rows
        = zipped-and-rest f rows (tabulate b q) ∙ (λ j. zip-tabulated f n b (row w l) q j ++ drop (length-tabulate b q j) rows) in
        let o : min (length rows) b ≡ m = ap (λ (k : ℕ). min k b) (length-tabulate n (row w l)) in
        ap (λ (k : List Vector). flat k ++ rest) e
        ∙ flat_append (tabulate m (λ i. f (row w l i) (q i))) (drop b rows) rest
        ∙ ap (λ (k : List Float). flat (tabulate m (λ i. f (row w l i) (q i))) ++ k) (flat-drop rows b rest (rows-in w l) ∙ ap (λ (k : ℕ). drop (k * w) (flat rows ++ rest)) o ∙ ap (drop (m * w)) over-own)
