-- A flat slice that is changed row by row, and what its rows then are. Assumes nothing.
use mathlib.Core.Path.{◌≡◌, refl, sym, ap, ◌∙◌}
use mathlib.Core.List.{List, [], ◌∷◌, ◌++◌, map, append-nil, append_assoc}
use Prim.Native.Nat.{ℕ, zero, suc, ◌+◌, ◌*◌, ◌/◌, ◌≤◌, ◌<◌, min}
use native.Mathlib.Nat.{suc-mul, mul-le-mul_right, div-mul-le_self, zero-add, zero-mul}
use native.Mathlib.Numerals.{add-one}
use native.Mathlib.Omega.{arith}
use lib.Ieee.{Float}
use lib.ListN.{length, get_or, take, drop, length-append, length-take, length-drop}
use lib.Seq.{paste, take_at, drop_at, drop-drop, take_all}
use Rattle.model.specs.Lists.{joined, tabulate, indexed, row, rows_in}
use Rattle.model.specs.Agree.{Each}
use Rattle.model.specs.Attributes.{over_rows}
use Rattle.model.proofs.ListLaws.{length-tabulate, get_d_tabulate}
use Rattle.model.proofs.RowLaws.{flat, Rows, flat-length, row-of-flat}

-- ---- lists made entry by entry
pub tabulate-more : {A : Type 0} (n : ℕ) (f : ℕ → A) → tabulate (suc n) f ≡ tabulate n f ++ (f n ∷ [])
unfolding tabulate
tabulate-more zero f = refl
tabulate-more (suc n) f = ap (λ (l : List _). f 0 ∷ l) (tabulate-more n (λ i. f (suc i)))

pub tabulate-alike : {A : Type 0} (n : ℕ) (f g : ℕ → A) → ((i : ℕ) → i < n → f i ≡ g i) → tabulate n f ≡ tabulate n g
unfolding tabulate
tabulate-alike zero f g h = refl
tabulate-alike (suc n) f g h = (λ j. h 0 (omega arith) j ∷ tabulate-alike n (λ i. f (suc i)) (λ i. g (suc i)) (λ i b. h (suc i) (omega arith)) j)

pub tabulate-entries : {A : Type 0} (l : List A) (d : A) → tabulate (length l) (λ i. get_or l i d) ≡ l
unfolding tabulate
tabulate-entries [] d = refl
tabulate-entries (x ∷ l) d = ap (λ (m : List _). x ∷ m) (tabulate-entries l d)

pub map-tabulate : {A B : Type 0} (n : ℕ) (g : A → B) (f : ℕ → A) → map g (tabulate n f) ≡ tabulate n (λ i. g (f i))
unfolding tabulate
map-tabulate zero g f = refl
map-tabulate (suc n) g f = ap (λ (l : List _). g (f 0) ∷ l) (map-tabulate n g (λ i. f (suc i)))

pub indexed-tabulate : {A B : Type 0} (n k : ℕ) (g : ℕ → A → B) (f : ℕ → A) → indexed k g (tabulate n f) ≡ tabulate n (λ i. g (k + i) (f i))
unfolding tabulate indexed
indexed-tabulate zero k g f = refl
indexed-tabulate (suc n) k g f =
    let z : k ≡ k + 0 = omega arith in
    let s : (i : ℕ) → suc k + i ≡ k + suc i = λ i. omega arith in
    (λ j. g (z j) (f 0) ∷ (indexed-tabulate n (suc k) g (λ i. f (suc i)) ∙ tabulate-alike n _ _ (λ i b. ap (λ (m : ℕ). g m (f (suc i))) (s i))) j)

pub each-tabulated : {A : Type 0} (P : A → Type 0) (n : ℕ) (f : ℕ → A) → ((i : ℕ) → i < n → P (f i)) → Each P (tabulate n f)
unfolding tabulate
each-tabulated P zero f h = tt
each-tabulated P (suc n) f h = (h 0 (omega arith), each-tabulated P n (λ i. f (suc i)) (λ i b. h (suc i) (omega arith)))

flat_append : {A : Type 0} (a b : List (List A)) → flat (a ++ b) ≡ flat a ++ flat b
unfolding joined
flat_append [] b = refl
flat_append (r ∷ a) b = ap (λ (l : List _). r ++ l) (flat_append a b) ∙ sym (append_assoc r (flat a) (flat b))

-- ---- rows of a slice
module _ {A : Type 0} (w : ℕ) (l : List A) where
  pub rows_of : rows_in w l ≡ tabulate (length l / w) (row w l)
  unfolding rows_in
  rows_of = refl

  pub row_count : length (rows_in w l) ≡ length l / w
  unfolding rows_in
  row_count = length-tabulate (length l / w) _

  -- a whole row
  pub row_ends : (i : ℕ) → i < length l / w → i * w + w ≤ length l
  row_ends i b = omega (arith, suc-mul i w, mul-le-mul_right w b, div-mul-le_self (length l) w)

  pub row-length : (i : ℕ) → i < length l / w → length (row w l i) ≡ w
  row-length i b = omega (arith, length-take w (drop (i * w) l), length-drop (i * w) l, row_ends i b)

  pub rows-in : Rows w (rows_in w l)
  unfolding rows_in
  rows-in = each-tabulated _ (length l / w) (row w l) row-length

-- ---- a slice of which each row is replaced by what f makes of it, the first one first
module _ {A : Type 0} (w : ℕ) (f : ℕ → List A → List A) (l : List A) where
  -- the first k rows are done
  unfoldable pub up_to : ℕ → List A
  up_to k = flat (tabulate k (λ i. f i (row w l i))) ++ drop (k * w) l

  pub none_done : up_to 0 ≡ l
  unfolding up_to tabulate joined
  none_done = ap (λ (k : ℕ). drop k l) (zero-mul w)

  module _ (keeps : (i : ℕ) → i < length l / w → length (f i (row w l i)) ≡ w) where
    front-rows : (k : ℕ) → k ≤ length l / w → Rows w (tabulate k (λ i. f i (row w l i)))
    front-rows k b = each-tabulated _ k _ (λ i c. keeps i (omega arith))

    front_length : (k : ℕ) → k ≤ length l / w → length (flat (tabulate k (λ i. f i (row w l i)))) ≡ k * w
    front_length k b = flat-length w _ (front-rows k b) ∙ ap (λ (n : ℕ). n * w) (length-tabulate k _)

    pub length-kept : (k : ℕ) → k ≤ length l / w → length (up_to k) ≡ length l
    unfolding up_to
    length-kept k b =
        let m = mul-le-mul_right w b in
        omega (arith, length-append (flat (tabulate k (λ i. f i (row w l i)))) (drop (k * w) l), front_length k b, length-drop (k * w) l, m, div-mul-le_self (length l) w)

    rest : (k : ℕ) → k ≤ length l / w → drop (k * w) (up_to k) ≡ drop (k * w) l
    unfolding up_to
    rest k b = drop_at (flat (tabulate k (λ i. f i (row w l i)))) (drop (k * w) l) (k * w) (front_length k b)

    -- the next row is as lent
    pub next_row : (k : ℕ) → k < length l / w → row w (up_to k) k ≡ row w l k
    next_row k b = ap (take w) (rest k (omega arith))

    pub row_done : (k : ℕ) → k < length l / w → paste (up_to k) (k * w) (f k (row w l k)) w ≡ up_to (k + 1)
    unfolding up_to joined
    row_done k b =
        let front = tabulate k (λ i. f i (row w l i)) in
        let s = f k (row w l k) in
        let o : k * w + w ≡ (k + 1) * w = omega (arith, suc-mul k w, ap (λ (n : ℕ). n * w) (add-one k)) in
        let t : take (k * w) (up_to k) ≡ flat front = take_at (flat front) (drop (k * w) l) (k * w) (front_length k (omega arith)) in
        let u : take w s ≡ s = take_all w s (omega (arith, keeps k b)) in
        let v : drop (k * w + w) (up_to k) ≡ drop ((k + 1) * w) l
        = sym (drop-drop w (k * w) (up_to k)) ∙ ap (drop w) (rest k (omega arith)) ∙ drop-drop w (k * w) l ∙ ap (λ (n : ℕ). drop n l) o in
        let e : flat (tabulate (k + 1) (λ i. f i (row w l i))) ≡ flat front ++ s
        = ap (λ (n : ℕ). flat (tabulate n (λ i. f i (row w l i)))) (add-one k) ∙ ap flat (tabulate-more k (λ i. f i (row w l i))) ∙ flat_append front (s ∷ []) ∙ ap (λ (m : List A). flat front ++ m) (append-nil s) in
        (λ j. t j ++ u j ++ v j) ∙ ap (λ (m : List A). m ++ drop ((k + 1) * w) l) (sym e)

-- ---- rows in the place of those of a slice
module _ (w : ℕ) (rows : List (List Float)) (lent : List Float) (h : Rows w rows) (n : length rows ≡ length lent / w) where
  whole : length (flat rows) ≡ length lent / w * w
  whole = flat-length w rows h ∙ ap (λ (k : ℕ). k * w) n

  pub over-length : length (over_rows w rows lent) ≡ length lent
  over-length = omega (arith, length-append (flat rows) (drop (length lent / w * w) lent), whole, length-drop (length lent / w * w) lent, div-mul-le_self (length lent) w)

  over-rest : drop (length (over_rows w rows lent) / w * w) (over_rows w rows lent) ≡ drop (length lent / w * w) lent
  over-rest =
      ap (λ (k : ℕ). drop (k / w * w) (over_rows w rows lent)) over-length
      ∙ drop_at (flat rows) (drop (length lent / w * w) lent) (length lent / w * w) whole

  -- read again
  pub rows-over : rows_in w (over_rows w rows lent) ≡ rows
  unfolding rows_in
  rows-over =
      ap (λ (k : ℕ). tabulate (k / w) (row w (over_rows w rows lent))) over-length
      ∙ ap (λ (k : ℕ). tabulate k (row w (over_rows w rows lent))) (sym n)
      ∙ tabulate-alike (length rows) _ (λ i. get_or rows i []) (λ i b. row-of-flat w rows (drop (length lent / w * w) lent) i h b)
      ∙ tabulate-entries rows []

  -- and replaced again
  pub over-again : (other : List (List Float)) → over_rows w other (over_rows w rows lent) ≡ over_rows w other lent
  over-again other = ap (λ (l : List Float). flat other ++ l) over-rest
