-- The floats of a run of forms are no more than those of all forms of their kind, and these no more than those of the
-- document. Assumes nothing.
use mathlib.Core.Path.{◌≡◌, refl, ap, ◌∙◌}
use mathlib.Core.Bool.{Bool, true, false}
use mathlib.Core.List.{List, [], ◌∷◌, ◌++◌}
use mathlib.Core.Option.{none}
use Prim.Native.Nat.{ℕ, zero, suc, ◌+◌, ◌≤◌}
use native.Mathlib.Nat.{zero-add, suc-add}
use native.Mathlib.Omega.{arith}
use lib.Dec.{eqb}
use lib.ListN.{length, get_or, length-append}
use Rattle.model.specs.Lists.{pick, tabulate, sum_of}
use Rattle.grammar.specs.Forms.{Form, Document}
use Rattle.scene_schema.specs.declared.Pool.{Pool}
use Rattle.scene_forms.specs.Filled.{pool_of}
use Rattle.scene_forms.specs.Laid.{items_of, field_at, pool_number, fields_items, forms_items, items_from}
use Rattle.scene_forms.specs.Said.{forms_of}
use Rattle.text_sizes.proofs.Items.{picked}

-- the items of slot j
abbrev pub slot_count : ℕ → Form → ℕ
slot_count j f = length (items_of (field_at f j))

-- ---- a slot of a form

slot-few : (p : Pool) (k i j : ℕ) (f : Form) → eqb (pool_number (pool_of k (i + j))) (pool_number p) ≡ true
    → slot_count j f ≤ length (fields_items p k i f)
unfolding fields_items
slot-few p k i j [] e = omega arith
slot-few p k i zero (x ∷ f) e =
    let z : i + 0 ≡ i = omega arith in
    let s = ap (λ (n : ℕ). pick (eqb (pool_number (pool_of k n)) (pool_number p)) (items_of x) []) z in
    let all = ap (λ (b : Bool). length (pick b (items_of x) [])) e in
    omega (arith, all, ap length s, length-append (picked p k i x) (fields_items p k (suc i) f))
slot-few p k i (suc j) (x ∷ f) e =
    let z : suc i + j ≡ i + suc j = omega arith in
    let at = ap (λ (n : ℕ). eqb (pool_number (pool_of k n)) (pool_number p)) z ∙ e in
    omega (arith, slot-few p k (suc i) j f at, length-append (picked p k i x) (fields_items p k (suc i) f))

-- ---- the forms of a kind

slots-few : (p : Pool) (k j : ℕ) (fs : List Form) → eqb (pool_number (pool_of k (0 + j))) (pool_number p) ≡ true
    → sum_of (slot_count j) fs ≤ length (forms_items p k fs)
unfolding sum_of forms_items
slots-few p k j [] e = omega arith
slots-few p k j (f ∷ fs) e =
    omega (
      arith,
      slot-few p k 0 j f e,
      slots-few p k j fs e,
      length-append (fields_items p k 0 f) (forms_items p k fs),
    )

kind-few : (p : Pool) (k o : ℕ) (d : Document) → length (forms_items p (k + o) (forms_of d o)) ≤ length (items_from p k d)
unfolding forms_items items_from
kind-few p k o [] = omega arith
kind-few p k zero (fs ∷ d) =
    let z : k + 0 ≡ k = omega arith in
    omega (
      arith,
      ap (λ (n : ℕ). length (forms_items p n fs)) z,
      length-append (forms_items p k fs) (items_from p (suc k) d),
    )
kind-few p k (suc o) (fs ∷ d) =
    let z : suc k + o ≡ k + suc o = omega arith in
    omega (
      arith,
      kind-few p (suc k) o d,
      ap (λ (n : ℕ). length (forms_items p n (forms_of d o))) z,
      length-append (forms_items p k fs) (items_from p (suc k) d),
    )

-- ---- a run of forms

-- what is counted of each of n forms from a on is at most what is counted of all
module _ {A : Type 0} (make : Form → A) (count : A → ℕ) (bound : Form → ℕ) (none-bound : bound [] ≡ 0)
    (fewer : (f : Form) → count (make f) ≤ bound f) where
  past : (n : ℕ) (place : ℕ → ℕ) → sum_of count (tabulate n (λ i. make (get_or [] (place i) []))) ≤ 0
  unfolding sum_of tabulate
  past zero place = omega arith
  past (suc n) place = omega (arith, none-bound, fewer [], past n (λ i. place (suc i)))

  first-few : (fs : List Form) (n : ℕ) → sum_of count (tabulate n (λ i. make (get_or fs i []))) ≤ sum_of bound fs
  unfolding sum_of tabulate
  first-few [] n = past n (λ i. i)
  first-few (f ∷ fs) zero = omega arith
  first-few (f ∷ fs) (suc n) = omega (arith, fewer f, first-few fs n)

  pub run-few : (fs : List Form) (a n : ℕ)
      → sum_of count (tabulate n (λ i. make (get_or fs (a + i) []))) ≤ sum_of bound fs
  unfolding sum_of tabulate
  run-few [] a n = past n (λ i. a + i)
  run-few (f ∷ fs) zero n = simp zero-add (first-few (f ∷ fs) n)
  run-few (f ∷ fs) (suc a) n = simp suc-add (omega (arith, run-few fs a n))

-- the items of slot j of all forms of kind k
pub all-few : (p : Pool) (k j : ℕ) (d : Document) → eqb (pool_number (pool_of k (0 + j))) (pool_number p) ≡ true
    → sum_of (slot_count j) (forms_of d k) ≤ length (items_from p 0 d)
all-few p k j d e =
    let z : 0 + k ≡ k = omega arith in
    omega (
      arith,
      slots-few p k j (forms_of d k) e,
      kind-few p 0 k d,
      ap (λ (n : ℕ). length (forms_items p n (forms_of d k))) z,
    )
