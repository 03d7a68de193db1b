-- A slice whose rows are changed one after the other, and what it then is. Assumes nothing.
use mathlib.Core.Path.{◌≡◌, refl, sym, ap, ◌∙◌}
use mathlib.Core.Bool.{Bool, true, false}
use mathlib.Core.List.{List, [], ◌∷◌, ◌++◌, map}
use Prim.Native.Nat.{ℕ, zero, suc, ◌+◌, ◌-◌, ◌*◌, ◌/◌, ◌≤◌, ◌<◌}
use native.Mathlib.Nat.{zero-add}
use native.Mathlib.Numerals.{add-one}
use native.Mathlib.Omega.{arith}
use borrow.Author.Tests.{ltb-true, ltb-false, lt-ltb, le-ltb}
use lib.Dec.{ltb}
use lib.Ieee.{Float}
use lib.ListN.{length, take, drop, take-append-drop}
use lib.Seq.{paste, take-add, take-take}
use Rattle.model.specs.Lists.{pick, tabulate, indexed, part, row, rows_in}
use Rattle.model.specs.Vector.{Vector}
use Rattle.model.specs.Attributes.{over_rows}
use Rattle.model.proofs.RowLaws.{flat}
use Rattle.model.proofs.Rowwise.{up_to, none_done, length-kept, next_row, row_done, rows_of, row-length, tabulate-alike, indexed-tabulate}
use Rattle.vertex_rows.specs.Rows.{row_changed, first_rows}

-- ---- one row
module _ (w : ℕ) (f : Vector → Vector) (k : ℕ) (l : List Float) where
  pub row-changed : (left : List Float) (x y : Vector) → k < length l / w → left ≡ paste l (k * w) x w → x ≡ f y → y ≡ row w l k → left ≡ row_changed w f k l
  unfolding row_changed
  row-changed left x y h e v g =
      e
      ∙ ap (λ (r : Vector). paste l (k * w) r w) (v ∙ ap f g)
      ∙ sym (ap (λ (b : Bool). pick b (paste l (k * w) (f (row w l k)) w) l) (lt-ltb k (length l / w) h))

  pub row-absent : length l / w ≤ k → l ≡ row_changed w f k l
  unfolding row_changed
  row-absent h = sym (ap (λ (b : Bool). pick b (paste l (k * w) (f (row w l k)) w) l) (le-ltb k (length l / w) h))

-- a part put where it lies
put_back : {A : Type 0} (l : List A) (at n : ℕ) → paste l at (part l at n) n ≡ l
put_back l at n =
    ap (λ (p : List _). take at l ++ p ++ drop (at + n) l) (take-take n n (drop at l) (omega arith))
    ∙ ap (λ (p : List _). p ++ drop (at + n) l) (sym (take-add at n l))
    ∙ take-append-drop (at + n) l

pub row_kept : (w k : ℕ) (l : List Float) → l ≡ row_changed w (λ x. x) k l
unfolding row_changed
row_kept w k l = sym (go (ltb k (length l / w)))
  where
    go : (b : Bool) → pick b (paste l (k * w) (row w l k) w) l ≡ l
    go true = put_back l (k * w) w
    go false = refl

-- ---- all rows
pub next-done : (w : ℕ) (f : ℕ → Vector → Vector) (l here left : List Float) (k : ℕ) → left ≡ row_changed w (f k) k here → here ≡ first_rows w f l k → left ≡ first_rows w f l (k + 1)
unfolding first_rows
next-done w f l here left k e h = e ∙ ap (row_changed w (f k) k) h ∙ ap (first_rows w f l) (sym (add-one k))

module _ (w : ℕ) (f : ℕ → Vector → Vector) (l : List Float) (keeps : (i : ℕ) → i < length l / w → length (f i (row w l i)) ≡ w) where
  -- as many as the slice has, and no more
  first_done : (k : ℕ) → k ≤ length l / w → first_rows w f l k ≡ up_to w f l k
  unfolding first_rows
  first_done zero h = sym (none_done w f l)
  first_done (suc k) h =
      let u = up_to w f l k in
      let n : length u ≡ length l = length-kept w f l keeps k (omega arith) in
      let b : k < length u / w = rw n (omega arith) in
      ap (row_changed w (f k) k) (first_done k (omega arith))
      ∙ sym (row-changed w (f k) k u _ (f k (row w l k)) (row w l k) b refl refl (sym (next_row w f l keeps k (omega arith))))
      ∙ row_done w f l keeps k (omega arith)
      ∙ ap (up_to w f l) (add-one k)

  past-last : (d : ℕ) → first_rows w f l (d + length l / w) ≡ up_to w f l (length l / w)
  unfolding first_rows
  past-last zero = ap (first_rows w f l) (zero-add (length l / w)) ∙ first_done (length l / w) (omega arith)
  past-last (suc d) =
      let u = up_to w f l (length l / w) in
      let n : length u ≡ length l = length-kept w f l keeps (length l / w) (omega arith) in
      let e : suc d + length l / w ≡ suc (d + length l / w) = omega arith in
      let b : length u / w ≤ d + length l / w = rw n (omega arith) in
      ap (first_rows w f l) e
      ∙ ap (row_changed w (f (d + length l / w)) (d + length l / w)) (past-last d)
      ∙ sym (row-absent w (f (d + length l / w)) (d + length l / w) u b)

  -- rows from n on stay as they are
  module _ (n : ℕ) (still : (i : ℕ) → n ≤ i → i < length l / w → f i (row w l i) ≡ row w l i) where
    rest-done : (d : ℕ) → d + n ≤ length l / w → up_to w f l (d + n) ≡ up_to w f l n
    rest-done zero h = ap (up_to w f l) (zero-add n)
    rest-done (suc d) h =
        let k = d + n in
        let e : suc d + n ≡ d + n + 1 = omega arith in
        ap (up_to w f l) e
        ∙ sym (row_done w f l keeps k (omega arith))
        ∙ ap (λ (r : Vector). paste (up_to w f l k) (k * w) r w) (still k (omega arith) (omega arith) ∙ sym (next_row w f l keeps k (omega arith)))
        ∙ put_back (up_to w f l k) (k * w) w
        ∙ rest-done d (omega arith)

    by_count : (b : Bool) → ltb n (length l / w) ≡ b → first_rows w f l n ≡ up_to w f l (length l / w)
    by_count true t =
        let h = ltb-true n (length l / w) t in
        let e : length l / w - n + n ≡ length l / w = omega arith in
        first_done n (omega arith) ∙ sym (rest-done (length l / w - n) (omega arith)) ∙ ap (up_to w f l) e
    by_count false t =
        let h = ltb-false n (length l / w) t in
        let e : n ≡ n - length l / w + length l / w = omega arith in
        ap (first_rows w f l) e ∙ past-last (n - length l / w)

    pub rows-done : first_rows w f l n ≡ over_rows w (indexed 0 f (rows_in w l)) l
    unfolding up_to
    rows-done =
        let c = length l / w in
        let e : indexed 0 f (rows_in w l) ≡ tabulate c (λ i. f i (row w l i))
        = ap (indexed 0 f) (rows_of w l) ∙ indexed-tabulate c 0 f (row w l) ∙ tabulate-alike c _ _ (λ i b. ap (λ (m : ℕ). f m (row w l i)) (zero-add i)) in
        by_count (ltb n c) refl ∙ sym (ap (λ (r : List Vector). flat r ++ drop (c * w) l) e)

indexed-map : {A B : Type 0} (k : ℕ) (g : A → B) (l : List A) → indexed k (λ _. g) l ≡ map g l
unfolding indexed
indexed-map k g [] = refl
indexed-map k g (x ∷ l) = ap (λ (r : List _). g x ∷ r) (indexed-map (suc k) g l)

-- each row by one rule
pub each-done : (w : ℕ) (g : Vector → Vector) (l : List Float) → ((i : ℕ) → i < length l / w → length (g (row w l i)) ≡ w) → first_rows w (λ _. g) l (length l / w) ≡ over_rows w (map g (rows_in w l)) l
each-done w g l keeps =
    rows-done w (λ _. g) l keeps (length l / w) (λ i b c. absurd (omega arith))
    ∙ ap (λ (r : List Vector). over_rows w r l) (indexed-map 0 g (rows_in w l))

-- or by none
pub each-kept : (w : ℕ) (l : List Float) → l ≡ over_rows w (map (λ x. x) (rows_in w l)) l
unfolding first_rows
each-kept w l =
    rows-done w (λ _ x. x) l (row-length w l) 0 (λ i b c. refl)
    ∙ ap (λ (r : List Vector). over_rows w r l) (indexed-map 0 (λ x. x) (rows_in w l))
