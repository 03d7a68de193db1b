-- Rows of one length that lie one after the other in a slice: reading row i, and writing it. Assumes nothing.
use mathlib.Core.Path.{◌≡◌, refl, sym, ap, ◌∙◌}
use mathlib.Core.List.{List, [], ◌∷◌, ◌++◌, append_assoc}
use Prim.Native.Nat.{ℕ, zero, suc, ◌+◌, ◌*◌, ◌≤◌, ◌<◌}
use native.Mathlib.Nat.{suc-mul}
use native.Mathlib.Omega.{arith}
use lib.ListN.{length, get_or, take, drop, set, length-append}
use lib.Seq.{paste, take_at, drop_at, take_all, take-append-add, drop-append-add}
use Rattle.model.specs.Lists.{joined, part, row}
use Rattle.model.specs.Matrix.{Matrix, mul}
use Rattle.model.specs.Agree.{Each}
use Rattle.model.proofs.ListLaws.{length-tabulate}

-- the rows as they lie
abbrev pub flat : {A : Type 0} → List (List A) → List A
flat l = joined (λ r. r) l

abbrev pub Rows : {A : Type 0} → ℕ → List (List A) → Type 0
Rows w l = Each (λ r. length r ≡ w) l

-- a product of matrices is such a row
pub product-length : (a b : Matrix) → length (mul a b) ≡ 16
unfolding mul
product-length a b = length-tabulate 16 _

next : (w i : ℕ) → suc i * w ≡ w + i * w
next w i = omega (arith, suc-mul i w)

module _ {A : Type 0} (w : ℕ) where
  -- past the first row
  drop-row : (r j : List A) (n : ℕ) → length r ≡ w → drop (w + n) (r ++ j) ≡ drop n j
  drop-row r j n h = ap (λ (k : ℕ). drop (k + n) (r ++ j)) (sym h) ∙ drop-append-add r j n

  take_row : (r j : List A) (n : ℕ) → length r ≡ w → take (w + n) (r ++ j) ≡ r ++ take n j
  take_row r j n h = ap (λ (k : ℕ). take (k + n) (r ++ j)) (sym h) ∙ take-append-add r j n

  pub flat-length : (l : List (List A)) → Rows w l → length (flat l) ≡ length l * w
  unfolding joined
  flat-length [] h = omega arith
  flat-length (r ∷ l) (e, h) = length-append r (flat l) ∙ omega (arith, flat-length l h, next w (length l), e)

  -- row i, whatever lies past the last one
  pub row-of-flat : (l : List (List A)) (rest : List A) (i : ℕ) → Rows w l → i < length l → row w (flat l ++ rest) i ≡ get_or l i []
  unfolding joined
  row-of-flat [] rest i h b = absurd (omega arith)
  row-of-flat (r ∷ l) rest zero (e, h) b =
      let z : zero * w ≡ 0 = omega arith in
      ap (λ (k : ℕ). take w (drop k ((r ++ flat l) ++ rest))) z ∙ ap (take w) (append_assoc r (flat l) rest) ∙ take_at r (flat l ++ rest) w e
  row-of-flat (r ∷ l) rest (suc i) (e, h) b =
      ap (λ (k : ℕ). take w (drop k ((r ++ flat l) ++ rest))) (next w i)
      ∙ ap (λ (m : List A). take w (drop (w + i * w) m)) (append_assoc r (flat l) rest)
      ∙ ap (take w) (drop-row r (flat l ++ rest) (i * w) e)
      ∙ row-of-flat l rest i h (omega arith)

  -- row i replaced
  pub set-row : (l : List (List A)) (rest : List A) (i : ℕ) (s : List A) → Rows w l → length s ≡ w → i < length l → paste (flat l ++ rest) (i * w) s w ≡ flat (set l i s) ++ rest
  unfolding joined
  set-row [] rest i s h f b = absurd (omega arith)
  set-row (r ∷ l) rest zero s (e, h) f b =
      let z : zero * w ≡ 0 = omega arith in
      let d = (r ++ flat l) ++ rest in
      let o : 0 + w ≡ w = omega arith in
      let g : drop (0 + w) d ≡ flat l ++ rest = ap (λ (k : ℕ). drop k d) o ∙ ap (drop w) (append_assoc r (flat l) rest) ∙ drop_at r (flat l ++ rest) w e in
      ap (λ (k : ℕ). paste d k s w) z
      ∙ (λ j. take_all w s (omega arith) j ++ g j)
      ∙ sym (append_assoc s (flat l) rest)
  set-row (r ∷ l) rest (suc i) s (e, h) f b =
      let j = flat l ++ rest in
      let t : take (w + i * w) (r ++ j) ≡ r ++ take (i * w) j = take_row r j (i * w) e in
      let o : w + i * w + w ≡ w + (i * w + w) = omega arith in
      let g : drop (w + i * w + w) (r ++ j) ≡ drop (i * w + w) j = ap (λ (k : ℕ). drop k (r ++ j)) o ∙ drop-row r j (i * w + w) e in
      ap (λ (k : ℕ). paste ((r ++ flat l) ++ rest) k s w) (next w i)
      ∙ ap (λ (m : List A). paste m (w + i * w) s w) (append_assoc r (flat l) rest)
      ∙ (λ k. t k ++ take w s ++ g k)
      ∙ ap (λ (m : List A). m ++ drop (i * w + w) j) (append_assoc r (take (i * w) j) (take w s))
      ∙ append_assoc r (take (i * w) j ++ take w s) (drop (i * w + w) j)
      ∙ ap (λ (m : List A). r ++ m) (set-row l rest i s h f (omega arith))
      ∙ sym (append_assoc r (flat (set l i s)) rest)

  -- and the rows keep their length
  pub rows-set : (l : List (List A)) (i : ℕ) (s : List A) → Rows w l → length s ≡ w → Rows w (set l i s)
  rows-set [] i s h f = tt
  rows-set (r ∷ l) zero s (e, h) f = (f, h)
  rows-set (r ∷ l) (suc i) s (e, h) f = (e, rows-set l i s h f)
