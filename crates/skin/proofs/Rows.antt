-- Matrices written one after the other from the start of a slice on. Assumes nothing.
use mathlib.Core.Path.{◌≡◌, refl, sym, ap, ◌∙◌}
use mathlib.Core.Bool.{Bool, true}
use mathlib.Core.List.{List, [], ◌∷◌, ◌++◌, append_assoc, append-nil}
use Prim.Native.Nat.{ℕ, zero, suc, ◌+◌, ◌*◌, ◌≤◌, ◌<◌}
use native.Mathlib.Numerals.{add-one}
use native.Mathlib.Omega.{arith}
use borrow.Author.Tests.{le-leb, lt-leb}
use lib.Ieee.{Float}
use lib.ListN.{length, get_or, take, drop, length-append, length-drop}
use lib.Seq.{paste, take-suc, take_at, take_all, length-take-le, drop-append-add, drop-drop}
use Rattle.model.specs.Lists.{pick, tabulate, joined}
use Rattle.model.specs.Matrix.{Matrix, mul}
use Rattle.model.proofs.ListLaws.{length-tabulate, get_d_tabulate}
use Rattle.model.proofs.RowLaws.{flat, Rows, flat-length, product-length}
use Rattle.scene.specs.Slots.{matrix_in, fits_at}
use Rattle.skin.specs.Palette.{bind_in, palette_in, laid_out}

rows_take : (t : ℕ) (p : List Matrix) → Rows 16 p → Rows 16 (take t p)
rows_take zero p h = tt
rows_take (suc t) [] h = tt
rows_take (suc t) (m ∷ p) h = (h.0, rows_take t p h.1)

row-there : (t : ℕ) (p : List Matrix) → Rows 16 p → t < length p → length (get_or p t []) ≡ 16
row-there t [] h b = absurd (omega arith)
row-there zero (m ∷ p) h b = h.0
row-there (suc t) (m ∷ p) h b = row-there t p h.1 (omega arith)

flat-more : (p : List Matrix) (m : Matrix) → flat (p ++ (m ∷ [])) ≡ flat p ++ m
unfolding joined
flat-more [] m = append-nil m
flat-more (r ∷ p) m = ap (λ (l : List Float). r ++ l) (flat-more p m) ∙ sym (append_assoc r (flat p) m)

-- the first t matrices stand in the slice
pub record Written (p : List Matrix) (lent left : List Float) (t : ℕ) : Type 0 where
  pub slice : left ≡ flat (take t p) ++ drop (t * 16) lent
  pub upto : t ≤ length p

module _ (p : List Matrix) (lent : List Float) (rows : Rows 16 p) (room : length p * 16 ≤ length lent) where
  pub start : Written p lent lent 0
  unfolding joined
  start = record { slice = refl; upto = omega arith }

  front_length : (t : ℕ) → t ≤ length p → length (flat (take t p)) ≡ t * 16
  front_length t b = flat-length 16 (take t p) (rows_take t p rows) ∙ ap (λ (k : ℕ). k * 16) (length-take-le t p b)

  pub same_length : (left : List Float) (t : ℕ) → Written p lent left t → length left ≡ length lent
  same_length left t w =
      ap length w.slice ∙ length-append (flat (take t p)) (drop (t * 16) lent)
      ∙ omega (arith, front_length t w.upto, length-drop (t * 16) lent, w.upto)

  pub next : (left : List Float) (t : ℕ) (m : Matrix) → Written p lent left t → t < length p → m ≡ get_or p t []
      → Written p lent (pick (fits_at left (t * 16)) (paste left (t * 16) m 16) left) (t + 1)
  next left t m w b e =
      let front = flat (take t p) in
      let rest = drop (t * 16) lent in
      let n = front_length t w.upto in
      let fits : fits_at left (t * 16) ≡ true = le-leb (t * 16 + 16) (length left) (omega (arith, same_length left t w)) in
      let o : t * 16 + 16 ≡ (t + 1) * 16 = omega arith in
      let past : drop (t * 16 + 16) (front ++ rest) ≡ drop ((t + 1) * 16) lent
      = ap (λ (k : ℕ). drop (k + 16) (front ++ rest)) (sym n) ∙ drop-append-add front rest 16 ∙ drop-drop 16 (t * 16) lent ∙ ap (λ (k : ℕ). drop k lent) o in
      let one = row-there t p rows b in
      let head : front ++ m ≡ flat (take (t + 1) p)
      = ap (λ (x : Matrix). front ++ x) e ∙ sym (flat-more (take t p) (get_or p t [])) ∙ ap flat (sym (take-suc p t [] b) ∙ ap (λ (k : ℕ). take k p) (sym (add-one t))) in
      record {
        slice =
            ap (λ (f : Bool). pick f (paste left (t * 16) m 16) left) fits
            ∙ ap (λ (l : List Float). paste l (t * 16) m 16) w.slice
            ∙ (λ j. take_at front rest (t * 16) n j ++ take_all 16 m (omega (arith, ap length e, one)) j ++ past j)
            ∙ ap (λ (l : List Float). l ++ drop ((t + 1) * 16) lent) head;
        upto = omega arith;
      }

  pub all : (left : List Float) (t : ℕ) → Written p lent left t → length p ≤ t → left ≡ flat p ++ drop (length p * 16) lent
  all left t w b =
      let e : t ≡ length p = omega (arith, w.upto) in
      w.slice ∙ (λ j. flat (take_all t p b j) ++ drop (e j * 16) lent)

-- ---- a slice with the matrices at its start
module _ (p : List Matrix) (lent : List Float) where
  pub laid : length p * 16 ≤ length lent → flat p ++ drop (length p * 16) lent ≡ laid_out p lent
  unfolding laid_out
  laid h = ap (λ (b : Bool). pick b (flat p ++ drop (length p * 16) lent) lent) (sym (le-leb (length p * 16) (length lent) h))

  pub no_room : length lent < length p * 16 → lent ≡ laid_out p lent
  unfolding laid_out
  no_room h = ap (λ (b : Bool). pick b (flat p ++ drop (length p * 16) lent) lent) (sym (lt-leb (length p * 16) (length lent) h))

pub none-laid : (lent : List Float) → lent ≡ laid_out [] lent
unfolding laid_out joined
none-laid lent = ap (λ (b : Bool). pick b lent lent) (sym (le-leb (0 * 16) (length lent) (omega arith)))

-- ---- the matrices of a palette
rows_of : (n : ℕ) (f : ℕ → Matrix) → ((t : ℕ) → length (f t) ≡ 16) → Rows 16 (tabulate n f)
unfolding tabulate
rows_of zero f h = tt
rows_of (suc n) f h = (h 0, rows_of n (λ t. f (suc t)) (λ t. h (suc t)))

module _ (js : List ℕ) (binds worlds : List Float) where
  pub palette-rows : Rows 16 (palette_in js binds worlds)
  unfolding palette_in
  palette-rows = rows_of (length js) _ (λ t. product-length _ _)

  pub joint-at : (t : ℕ) → t < length js → get_or (palette_in js binds worlds) t [] ≡ mul (matrix_in worlds (get_or js t 0 * 16)) (bind_in binds (t * 16))
  unfolding palette_in
  joint-at t b = get_d_tabulate (length js) _ t [] b

  pub palette-length : length (palette_in js binds worlds) ≡ length js
  unfolding palette_in
  palette-length = length-tabulate _ _
