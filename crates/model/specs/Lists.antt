-- Folds, choices and parts of lists. Definitions only.
use Rattle.std.specs.Prelude.{List, [], ◌∷◌, ◌++◌, Bool, true, false, ◌&&◌, ◌||◌, ℕ, zero, suc, ◌+◌, ◌*◌, ◌/◌, length, get_or, take, drop}
use Rattle.std.proofs.Math.Option.{Option, none, some}

abbrev pub pick : {A : Type 0} → Bool → A → A → A
pick true a b = a
pick false a b = b

unfoldable pub foldl : {A B : Type 0} → (B → A → B) → B → List A → B
foldl f z [] = z
foldl f z (x ∷ xs) = foldl f (f z x) xs

-- the elements that pass a test, in order
unfoldable pub keep : {A : Type 0} → (A → Bool) → List A → List A
keep p [] = []
keep p (x ∷ xs) = pick (p x) (x ∷ keep p xs) (keep p xs)

-- whether every element passes a test, and whether one does
unfoldable pub every : {A : Type 0} → (A → Bool) → List A → Bool
every p [] = true
every p (x ∷ xs) = p x && every p xs

unfoldable pub any_of : {A : Type 0} → (A → Bool) → List A → Bool
any_of p [] = false
any_of p (x ∷ xs) = p x || any_of p xs

-- the first element that passes a test
unfoldable pub first_that : {A : Type 0} → (A → Bool) → List A → Option A
first_that p [] = none
first_that p (x ∷ xs) = pick (p x) (some x) (first_that p xs)

unfoldable pub sum_of : {A : Type 0} → (A → ℕ) → List A → ℕ
sum_of f [] = 0
sum_of f (x ∷ xs) = f x + sum_of f xs

unfoldable pub joined : {A B : Type 0} → (A → List B) → List A → List B
joined f [] = []
joined f (x ∷ xs) = f x ++ joined f xs

-- f at 0, 1 and so on, n of them
unfoldable pub tabulate : {A : Type 0} → ℕ → (ℕ → A) → List A
tabulate zero f = []
tabulate (suc n) f = f 0 ∷ tabulate n (λ i. f (suc i))

-- f at each element and its index, counted from k
unfoldable pub indexed : {A B : Type 0} → ℕ → (ℕ → A → B) → List A → List B
indexed k f [] = []
indexed k f (x ∷ xs) = f k x ∷ indexed (suc k) f xs

-- n elements from the one at `at` on
abbrev pub part : {A : Type 0} → List A → ℕ → ℕ → List A
part l at n = take n (drop at l)

-- row i of a list in rows of n
abbrev pub row : {A : Type 0} → ℕ → List A → ℕ → List A
row n l i = part l (i * n) n

-- the whole rows of n; entries past the last one are left out
unfoldable pub rows_in : {A : Type 0} → ℕ → List A → List (List A)
rows_in n l = tabulate (length l / n) (row n l)

abbrev pub is_some : {A : Type 0} → Option A → Bool
is_some (some a) = true
is_some none = false

abbrev pub or_else : {A : Type 0} → Option A → A → A
or_else (some a) d = a
or_else none d = d

-- the later value, if one is given
abbrev pub later : {A : Type 0} → Option A → Option A → Option A
later (some a) old = some a
later none old = old

abbrev pub and_then : {A B : Type 0} → Option A → (A → Option B) → Option B
and_then (some a) f = f a
and_then none f = none

abbrev pub map_some : {A B : Type 0} → (A → B) → Option A → Option B
map_some f (some a) = some (f a)
map_some f none = none
