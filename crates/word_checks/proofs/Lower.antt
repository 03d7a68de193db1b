-- The lower of two numbers, and what a record draws by several tests, as the lowest of what each test draws. Assumes
-- nothing.
use mathlib.Core.Path.{◌≡◌, refl, sym, ap, ◌∙◌}
use mathlib.Core.Bool.{Bool, true, false, ◌&&◌}
use mathlib.Core.List.{List, [], ◌∷◌, ◌++◌, map}
use Prim.Native.Nat.{ℕ, zero, suc, min}
use native.Mathlib.Omega.{arith}
use borrow.Author.Tests.{ltb-true, ltb-false}
use lib.Dec.{ltb}
use Rattle.model.specs.Lists.{pick}
use Rattle.checks.specs.Drawn.{drawn, lower_of}
use Rattle.word_checks.specs.Words.{leaves, over, lowest_of}

-- ---- the lower of two
pub lower-right : (a : ℕ) → lower_of a 0 ≡ a
unfolding lower_of
lower-right zero = refl
lower-right (suc a) = refl

lower-min : (a b : ℕ) → lower_of (suc a) (suc b) ≡ suc (min a b)
unfolding lower_of
lower-min a b = go (ltb (suc a) (suc b)) refl
  where
    go : (t : Bool) → ltb (suc a) (suc b) ≡ t → pick t (suc a) (suc b) ≡ suc (min a b)
    go true e = let h = ltb-true (suc a) (suc b) e in omega arith
    go false e = let h = ltb-false (suc a) (suc b) e in omega arith

pub lower-comm : (a b : ℕ) → lower_of a b ≡ lower_of b a
unfolding lower_of
lower-comm zero zero = refl
lower-comm zero (suc b) = refl
lower-comm (suc a) zero = refl
lower-comm (suc a) (suc b) =
    lower-min a b ∙ (let e : suc (min a b) ≡ suc (min b a) = omega arith in e) ∙ sym (lower-min b a)

pub lower-assoc : (a b c : ℕ) → lower_of (lower_of a b) c ≡ lower_of a (lower_of b c)
unfolding lower_of
lower-assoc zero b c = refl
lower-assoc (suc a) zero c = refl
lower-assoc (suc a) (suc b) zero = lower-right (lower_of (suc a) (suc b))
lower-assoc (suc a) (suc b) (suc c) =
    ap (λ (n : ℕ). lower_of n (suc c)) (lower-min a b)
    ∙ lower-min (min a b) c
    ∙ (let e : suc (min (min a b) c) ≡ suc (min a (min b c)) = omega arith in e)
    ∙ sym (lower-min a (min b c))
    ∙ ap (lower_of (suc a)) (sym (lower-min b c))

pub lower-left-comm : (a b c : ℕ) → lower_of a (lower_of b c) ≡ lower_of b (lower_of a c)
lower-left-comm a b c = sym (lower-assoc a b c) ∙ ap (λ (n : ℕ). lower_of n c) (lower-comm a b) ∙ lower-assoc b a c

-- ---- of a list
pub lowest-append : {A : Type 0} (f : A → ℕ) (xs ys : List A)
    → lowest_of f (xs ++ ys) ≡ lower_of (lowest_of f xs) (lowest_of f ys)
unfolding lowest_of lower_of
lowest-append f [] ys = refl
lowest-append f (x ∷ xs) ys =
    ap (lower_of (f x)) (lowest-append f xs ys) ∙ sym (lower-assoc (f x) (lowest_of f xs) (lowest_of f ys))

pub lowest-map : {A B : Type 0} (f : B → ℕ) (g : A → B) (xs : List A)
    → lowest_of f (map g xs) ≡ lowest_of (λ (a : A). f (g a)) xs
unfolding lowest_of
lowest-map f g [] = refl
lowest-map f g (x ∷ xs) = ap (lower_of (f (g x))) (lowest-map f g xs)

-- ---- of tests
pub drawn-split : (f w : Bool) → drawn f w ≡ lower_of (leaves f) (over w)
unfolding drawn lower_of
drawn-split true true = refl
drawn-split true false = refl
drawn-split false true = refl
drawn-split false false = refl

pub leaves-both : (a b : Bool) → leaves (a && b) ≡ lower_of (leaves a) (leaves b)
unfolding drawn lower_of
leaves-both true b = refl
leaves-both false true = refl
leaves-both false false = refl

pub over-both : (a b : Bool) → over (a && b) ≡ lower_of (over a) (over b)
unfolding drawn lower_of
over-both true b = refl
over-both false true = refl
over-both false false = refl

-- both of two tests, each with its limit
pub drawn-both : (a b c d : Bool) → drawn (a && b) (c && d) ≡ lower_of (drawn a c) (drawn b d)
drawn-both a b c d =
    drawn-split (a && b) (c && d)
    ∙ (λ j. lower_of (leaves-both a b j) (over-both c d j))
    ∙ swap (leaves a) (leaves b) (over c) (over d)
    ∙ (λ j. lower_of (sym (drawn-split a c) j) (sym (drawn-split b d) j))
  where
    swap : (p q r s : ℕ) → lower_of (lower_of p q) (lower_of r s) ≡ lower_of (lower_of p r) (lower_of q s)
    swap p q r s = simp (lower-assoc, lower-left-comm)
