-- How many bytes items take: a float nine, any item two at least; and a field that must be there, its brackets and its
-- name. Assumes nothing.
use mathlib.Core.Path.{◌≡◌, refl, sym, ap, subst, ◌∙◌}
use mathlib.Core.Bool.{Bool, true, false, ◌&&◌, ◌||◌}
use mathlib.Core.List.{List, [], ◌∷◌, ◌++◌}
use mathlib.Core.Option.{none, some}
use Prim.Native.Nat.{ℕ, zero, suc, ◌+◌, ◌*◌, ◌≤◌, ◌<◌}
use native.Mathlib.Nat.{suc-mul, add-mul}
use native.Mathlib.Omega.{arith}
use borrow.Author.Tests.{eqb-true}
use lib.Dec.{T, eqb}
use lib.ListN.{length, drop, length-append}
use Rattle.model.specs.Lists.{pick}
use Rattle.grammar.specs.Digits.{Sort, numbers, floats, places, digits_of, items_text}
use Rattle.grammar.specs.Forms.{Slot, Field, Form, field_text, fields_text, FitsSlots}
use Rattle.grammar.specs.Shape.{present_in, groups_hold}
use Rattle.grammar.proofs.Words.{both}
use Rattle.spelling.proofs.DigitLaws.{last-length, places-some}
use Rattle.scene_schema.specs.declared.Pool.{Pool}
use Rattle.scene_schema.specs.declared.Pool.TheVariants as pool
use Rattle.scene_schema.specs.Schema.{kind_at, slot_at}
use Rattle.scene_schema.specs.Numbers.{sort_of}
use Rattle.scene_schema.proofs.Numbers.{kind-is}
use Rattle.scene_forms.specs.Filled.{pool_of}
use Rattle.scene_forms.specs.Laid.{items_of, pool_number, fields_items}
use Rattle.scene_forms.proofs.TextLaws.{by_slots}

-- ---- items

-- the least bytes of an item of a sort
abbrev pub least : Sort → ℕ
least numbers = 2
least floats = 9

digit-long : (s : Sort) (n : ℕ) → least s ≤ suc (length (digits_of s n))
digit-long numbers n = omega (arith, last-length 10 (places 9 n) n, places-some 9 n)
digit-long floats n = omega (arith, last-length 16 8 n)

pub items-long : (s : Sort) (xs : List ℕ) → length xs * least s ≤ length (items_text s xs)
unfolding items_text
items-long s [] = omega arith
items-long s (x ∷ xs) =
    omega (
      arith,
      suc-mul (length xs) (least s),
      digit-long s x,
      items-long s xs,
      length-append (digits_of s x) (items_text s xs),
    )

-- a field that is there
pub field-long : (t : Slot) (xs : List ℕ)
    → 3 + length t.name + length xs * least t.sort ≤ length (field_text t (some xs))
field-long t xs =
    omega (
      arith,
      items-long t.sort xs,
      length-append (t.name ++ items_text t.sort xs) (41 ∷ []),
      length-append t.name (items_text t.sort xs),
    )

-- any item takes two bytes
two-long : (s : Sort) (n : ℕ) → n * 2 ≤ n * least s
two-long numbers n = omega arith
two-long floats n = omega arith

-- ---- the items of a pool

-- the sort of its items goes by its number
sort_by : ℕ → Sort
sort_by n = pick (eqb n 0) numbers (pick (eqb n 2) numbers floats)

sort-by : (p : Pool) → sort_of p ≡ sort_by (pool_number p)
unfolding sort_by
sort-by pool.Number = refl
sort-by pool.Bits = refl
sort-by pool.Ids = refl
sort-by pool.Floats = refl
sort-by pool.NodeWeights = refl
sort-by pool.MeshWeights = refl

same-sort : (p q : Pool) → eqb (pool_number p) (pool_number q) ≡ true → sort_of p ≡ sort_of q
same-sort p q e = sort-by p ∙ ap sort_by (eqb-true (pool_number p) (pool_number q) e) ∙ sym (sort-by q)

-- of one field
abbrev pub picked : Pool → ℕ → ℕ → Field → List ℕ
picked p k j x = pick (eqb (pool_number (pool_of k j)) (pool_number p)) (items_of x) []

picked-long : (p : Pool) (k j : ℕ) (x : Field) → sort_of (pool_of k j) ≡ (slot_at k j).sort
    → length (picked p k j x) * least (sort_of p) ≤ length (field_text (slot_at k j) x)
picked-long p k j x e = go x (eqb (pool_number (pool_of k j)) (pool_number p)) refl
  where
    go : (x : Field) (b : Bool) → eqb (pool_number (pool_of k j)) (pool_number p) ≡ b
        → length (pick b (items_of x) []) * least (sort_of p) ≤ length (field_text (slot_at k j) x)
    go none true h = omega arith
    go none false h = omega arith
    go (some xs) false h = omega arith
    go (some xs) true h =
        let s : (slot_at k j).sort ≡ sort_of p = sym e ∙ same-sort (pool_of k j) p h in
        omega (arith, field-long (slot_at k j) xs, ap (λ (s : Sort). length xs * least s) s)

-- of a form
pub fields-long : (p : Pool) (k : ℕ) → k < 9 → (j : ℕ) (ts : List Slot) (f : Form) → ts ≡ drop j (kind_at k).slots
    → FitsSlots ts f → length (fields_items p k j f) * least (sort_of p) ≤ length (fields_text ts f)
unfolding fields_items fields_text
fields-long p k h = by_slots k
    (λ j ts f. length (fields_items p k j f) * least (sort_of p) ≤ length (fields_text ts f))
    (λ j. omega arith)
    (λ j ts x f l more.
    let rest = fields_items p k (suc j) f in
    omega (
      arith,
      more,
      picked-long p k j x ((kind-is k h).slots j l).sort,
      add-mul (length (picked p k j x)) (length rest) (least (sort_of p)),
      ap (λ (n : ℕ). n * least (sort_of p)) (length-append (picked p k j x) rest),
      length-append (field_text (slot_at k j) x) (fields_text ts f),
    ))

-- ---- fields that must be there

-- the brackets, the space and the name of each
unfoldable pub needed : List Slot → ℕ
needed [] = 0
needed (t ∷ ts) = pick (eqb t.one_of 1) (3 + length t.name) 0 + needed ts

picked-few : (p : Pool) (k j : ℕ) (x : Field) → length (picked p k j x) ≤ length (items_of x)
picked-few p k j x = go (eqb (pool_number (pool_of k j)) (pool_number p))
  where
    go : (b : Bool) → length (pick b (items_of x) []) ≤ length (items_of x)
    go true = omega arith
    go false = omega arith

-- a field of a group of one is there
there : (n : ℕ) (f : Form) → eqb n 1 ≡ true → T (eqb n 0 || eqb (present_in n (none ∷ f)) 1) → ⊥
unfolding present_in
there n f e h = subst (λ (m : ℕ). T (eqb m 0 || eqb (present_in m (none ∷ f)) 1)) (eqb-true n 1 e) h

one-long : (p : Pool) (k j : ℕ) (x : Field) (f : Form)
    → T (eqb (slot_at k j).one_of 0 || eqb (present_in (slot_at k j).one_of (x ∷ f)) 1)
    → length (picked p k j x) + pick (eqb (slot_at k j).one_of 1) (3 + length (slot_at k j).name) 0
    ≤ length (field_text (slot_at k j) x)
one-long p k j none f h = go (eqb (slot_at k j).one_of 1) refl
  where
    go : (b : Bool) → eqb (slot_at k j).one_of 1 ≡ b
        → length (picked p k j none) + pick b (3 + length (slot_at k j).name) 0 ≤ 0
    go true e = absurd (there (slot_at k j).one_of f e h)
    go false e = omega (arith, picked-few p k j none)
one-long p k j (some xs) f h = go (eqb (slot_at k j).one_of 1)
  where
    go : (b : Bool) → length (picked p k j (some xs)) + pick b (3 + length (slot_at k j).name) 0
        ≤ length (field_text (slot_at k j) (some xs))
    go true =
        omega (arith, picked-few p k j (some xs), field-long (slot_at k j) xs, two-long (slot_at k j).sort (length xs))
    go false =
        omega (arith, picked-few p k j (some xs), field-long (slot_at k j) xs, two-long (slot_at k j).sort (length xs))

-- of a form whose groups hold
pub needed-long : (p : Pool) (k j : ℕ) (ts : List Slot) (f : Form) → ts ≡ drop j (kind_at k).slots → FitsSlots ts f
    → T (groups_hold ts f) → length (fields_items p k j f) + needed ts ≤ length (fields_text ts f)
unfolding fields_items fields_text groups_hold needed
needed-long p k = by_slots k
    (λ j ts f. T (groups_hold ts f) → length (fields_items p k j f) + needed ts ≤ length (fields_text ts f))
    (λ j h. omega arith)
    (λ j ts x f l more h.
    let t = slot_at k j in
    let q = both (eqb t.one_of 0 || eqb (present_in t.one_of (x ∷ f)) 1) (groups_hold ts f) h in
    let rest = fields_items p k (suc j) f in
    omega (
      arith,
      more q.1,
      one-long p k j x f q.0,
      length-append (picked p k j x) rest,
      length-append (field_text (slot_at k j) x) (fields_text ts f),
    ))
