-- Lengths and entries of lists that are made entry by entry, and a list by its first entries. Assumes nothing.
use mathlib.Core.Path.{◌≡◌, refl, sym, ap, ◌∙◌}
use mathlib.Core.List.{List, [], ◌∷◌, ◌++◌, zip_with}
use mathlib.Core.Option.{none, some}
use Prim.Native.Nat.{ℕ, zero, suc, ◌+◌, ◌≤◌, ◌<◌, min}
use native.Mathlib.Numerals.{add-one}
use native.Mathlib.Omega.{arith}
use lib.ListN.{length, get_or, get_elem?, take, drop}
use lib.Seq.{drop-cons, take_all, take-suc}
use Rattle.model.specs.Lists.{foldl, tabulate}

pub length-tabulate : {A : Type 0} (n : ℕ) (f : ℕ → A) → length (tabulate n f) ≡ n
unfolding tabulate
length-tabulate zero f = refl
length-tabulate (suc n) f = ap suc (length-tabulate n (λ i. f (suc i)))

pub get_d_tabulate : {A : Type 0} (n : ℕ) (f : ℕ → A) (i : ℕ) (d : A) → i < n → get_or (tabulate n f) i d ≡ f i
unfolding tabulate
get_d_tabulate zero f i d h = absurd (omega arith)
get_d_tabulate (suc n) f zero d h = refl
get_d_tabulate (suc n) f (suc i) d h = get_d_tabulate n (λ j. f (suc j)) i d (omega arith)

-- an entry of a tabulated list, if it is there
pub entry-there : {A : Type 0} (n : ℕ) (f : ℕ → A) (i : ℕ) → i < n → get_elem? (tabulate n f) i ≡ some (f i)
unfolding tabulate
entry-there zero f i h = absurd (omega arith)
entry-there (suc n) f zero h = refl
entry-there (suc n) f (suc i) h = entry-there n (λ j. f (suc j)) i (omega arith)

pub entry_past : {A : Type 0} (n : ℕ) (f : ℕ → A) (i : ℕ) → n ≤ i → get_elem? (tabulate n f) i ≡ none
unfolding tabulate
entry_past zero f i h = refl
entry_past (suc n) f zero h = absurd (omega arith)
entry_past (suc n) f (suc i) h = entry_past n (λ j. f (suc j)) i (omega arith)

pub length-zip : {A B C : Type 0} (g : A → B → C) (xs : List A) (ys : List B) → length (zip_with g xs ys) ≡ min (length xs) (length ys)
unfolding zip_with
length-zip g [] ys = omega arith
length-zip g (x ∷ xs) [] = omega arith
length-zip g (x ∷ xs) (y ∷ ys) = omega (arith, length-zip g xs ys)

pub get_d_zip : {A B C : Type 0} (g : A → B → C) (xs : List A) (ys : List B) (i : ℕ) (d : A) (e : B) (z : C) → i < length xs → i < length ys → get_or (zip_with g xs ys) i z ≡ g (get_or xs i d) (get_or ys i e)
unfolding zip_with
get_d_zip g [] ys i d e z h k = absurd (omega arith)
get_d_zip g (x ∷ xs) [] i d e z h k = absurd (omega arith)
get_d_zip g (x ∷ xs) (y ∷ ys) zero d e z h k = refl
get_d_zip g (x ∷ xs) (y ∷ ys) (suc i) d e z h k = get_d_zip g xs ys i d e z (omega arith) (omega arith)

-- the entries from the one at i on, n of them, one by one
unfoldable pub entries_from : {A : Type 0} → A → List A → ℕ → ℕ → List A
entries_from d l i zero = []
entries_from d l i (suc n) = get_or l i d ∷ entries_from d l (suc i) n

pub part-entries : {A : Type 0} (d : A) (l : List A) (i n : ℕ) → i + n ≤ length l → take n (drop i l) ≡ entries_from d l i n
unfolding entries_from
part-entries d l i zero h = refl
part-entries d l i (suc n) h =
    ap (take (suc n)) (drop-cons l i d (omega arith)) ∙ ap (λ (r : List _). get_or l i d ∷ r) (part-entries d l (suc i) n (omega arith))

-- a whole list
pub by_entries : {A : Type 0} (d : A) (l : List A) (n : ℕ) → length l ≡ n → l ≡ entries_from d l 0 n
by_entries d l n h = sym (whole l n h) ∙ part-entries d l 0 n (omega arith)
  where
    whole : {A : Type 0} (l : List A) (n : ℕ) → length l ≡ n → take n l ≡ l
    whole l n h = take_all n l (omega arith)

-- an entry that is there does not depend on the default
pub same-entry : {A : Type 0} (l : List A) (i : ℕ) (d e : A) → i < length l → get_or l i d ≡ get_or l i e
same-entry [] i d e h = absurd (omega arith)
same-entry (x ∷ xs) zero d e h = refl
same-entry (x ∷ xs) (suc i) d e h = same-entry xs i d e (omega arith)

-- ---- a fold, one entry more
foldl-append : {A B : Type 0} (f : B → A → B) (z : B) (xs ys : List A) → foldl f z (xs ++ ys) ≡ foldl f (foldl f z xs) ys
unfolding foldl
foldl-append f z [] ys = refl
foldl-append f z (x ∷ xs) ys = foldl-append f (f z x) xs ys

pub foldl-more : {A B : Type 0} (f : B → A → B) (z : B) (l : List A) (k : ℕ) (d : A) → k < length l → foldl f z (take (k + 1) l) ≡ f (foldl f z (take k l)) (get_or l k d)
unfolding foldl
foldl-more f z l k d h =
    ap (λ (n : ℕ). foldl f z (take n l)) (add-one k)
    ∙ ap (foldl f z) (take-suc l k d h)
    ∙ foldl-append f z (take k l) (get_or l k d ∷ [])
