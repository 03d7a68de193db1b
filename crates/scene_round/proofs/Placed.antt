-- Where the items of a field and the record of a form stand in the tables of their document. Assumes nothing.
use mathlib.Core.Path.{◌≡◌, refl, sym, ap, subst, ◌∙◌}
use mathlib.Core.Bool.{Bool}
use mathlib.Core.List.{List, [], ◌∷◌, ◌++◌}
use mathlib.Core.Option.{none}
use Prim.Native.Nat.{ℕ, zero, suc, ◌+◌, ◌*◌, ◌<◌}
use native.Mathlib.Nat.{suc-mul}
use native.Mathlib.Omega.{arith}
use borrow.Author.Tests.{eq-eqb}
use lib.Dec.{eqb}
use lib.ListN.{length, get_or, take, length-append}
use Rattle.model.specs.Lists.{pick}
use Rattle.grammar.specs.Forms.{Form, Document}
use Rattle.scene_schema.specs.declared.Pool.{Pool}
use Rattle.scene_schema.specs.declared.Pool.TheVariants as pool
use Rattle.scene_marks.specs.Marks.{row_of, stride_of}
use Rattle.scene_forms.specs.declared.Counts.{Counts}
use Rattle.scene_forms.specs.Filled.{pool_of, start_in}
use Rattle.scene_forms.specs.Laid.{items_of, field_at, pool_number, fields_items, forms_items, items_from, no_counts}
use Rattle.scene_forms.specs.Laid.{count_fields, marks_of, forms_rows, count_forms, rows_from}
use Rattle.scene_forms.specs.Said.{forms_of, ids_of}
use Rattle.scene_forms.proofs.TableLaws.{counts_with, count-fields, count-forms, row-long, forms-long, row_words}
use Rattle.scene_round.proofs.Held.{Held, held_at, held_first, held-behind, held_in}

-- ---- where the items of a pool start

-- a pool whose items go to a table
abbrev pub Table : Pool → Type 0
Table pool.Number = ⊥
Table pool.Bits = ⊥
Table pool.Ids = Unit {0}
Table pool.Floats = Unit {0}
Table pool.NodeWeights = Unit {0}
Table pool.MeshWeights = Unit {0}

unfoldable pub count_kinds : ℕ → Document → Counts → Counts
count_kinds k [] c = c
count_kinds k (fs ∷ d) c = count_kinds (suc k) d (count_forms k fs c)

start-with : (p : Pool) → Table p → (items : Pool → List ℕ) (c : Counts)
    → start_in p (counts_with items c) ≡ start_in p c + length (items p)
start-with pool.Number t items c = absurd t
start-with pool.Bits t items c = absurd t
start-with pool.Ids t items c = refl
start-with pool.Floats t items c = refl
start-with pool.NodeWeights t items c = refl
start-with pool.MeshWeights t items c = refl

start_none : (p : Pool) → start_in p no_counts ≡ 0
start_none pool.Number = refl
start_none pool.Bits = refl
start_none pool.Ids = refl
start_none pool.Floats = refl
start_none pool.NodeWeights = refl
start_none pool.MeshWeights = refl

module _ (p : Pool) (t : Table p) where
  start-fields : (k j : ℕ) (f : Form) (c : Counts)
      → start_in p (count_fields k j f c) ≡ start_in p c + length (fields_items p k j f)
  start-fields k j f c = ap (start_in p) (count-fields k j f c) ∙ start-with p t (λ q. fields_items q k j f) c

  start-forms : (k : ℕ) (fs : List Form) (c : Counts)
      → start_in p (count_forms k fs c) ≡ start_in p c + length (forms_items p k fs)
  start-forms k fs c = ap (start_in p) (count-forms k fs c) ∙ start-with p t (λ q. forms_items q k fs) c

  start-kinds : (k : ℕ) (d : Document) (c : Counts)
      → start_in p (count_kinds k d c) ≡ start_in p c + length (items_from p k d)
  unfolding count_kinds items_from
  start-kinds k [] c = omega arith
  start-kinds k (fs ∷ d) c =
      omega (
        arith,
        start-kinds (suc k) d (count_forms k fs c),
        start-forms k fs c,
        length-append (forms_items p k fs) (items_from p (suc k) d),
      )

-- ---- items: of a field in its form, of a form in its kind, of a kind in its document

same-pool : (q p : Pool) → q ≡ p → (xs : List ℕ) → pick (eqb (pool_number q) (pool_number p)) xs [] ≡ xs
same-pool q p e xs = ap (λ (b : Bool). pick b xs []) (eq-eqb (pool_number q) (pool_number p) (ap pool_number e))

held_next : {xs l : List ℕ} (more before : List ℕ) → Held xs l (length before)
    → Held xs (more ++ l) (length (more ++ before))
held_next more before h = held_at (sym (length-append more before)) (held-behind more h)

field-held : (p : Pool) (k j : ℕ) (f : Form) (o i : ℕ) → i ≡ j + o → pool_of k i ≡ p → o < length f
    → Held (items_of (get_or f o none)) (fields_items p k j f) (length (fields_items p k j (take o f)))
unfolding fields_items
field-held p k j [] o i e q h = absurd (omega arith)
field-held p k j (x ∷ f) zero i e q h =
    let here : j ≡ i = omega arith in
    subst (λ (l : List ℕ). Held (items_of x) (l ++ fields_items p k (suc j) f) 0)
    (sym (same-pool (pool_of k j) p (ap (pool_of k) here ∙ q) (items_of x)))
    (held_first (items_of x) (fields_items p k (suc j) f))
field-held p k j (x ∷ f) (suc o) i e q h =
    held_next (pick (eqb (pool_number (pool_of k j)) (pool_number p)) (items_of x) [])
    (fields_items p k (suc j) (take o f)) (field-held p k (suc j) f o i (omega arith) q (omega arith))

form-held : (p : Pool) (k : ℕ) (fs : List Form) (i : ℕ) → i < length fs
    → Held (fields_items p k 0 (get_or fs i [])) (forms_items p k fs) (length (forms_items p k (take i fs)))
unfolding forms_items
form-held p k [] i h = absurd (omega arith)
form-held p k (f ∷ fs) zero h = held_first (fields_items p k 0 f) (forms_items p k fs)
form-held p k (f ∷ fs) (suc i) h =
    held_next (fields_items p k 0 f) (forms_items p k (take i fs)) (form-held p k fs i (omega arith))

kind-held : (p : Pool) (k : ℕ) (d : Document) (o i : ℕ) → i ≡ k + o → o < length d
    → Held (forms_items p i (get_or d o [])) (items_from p k d) (length (items_from p k (take o d)))
unfolding items_from
kind-held p k [] o i e h = absurd (omega arith)
kind-held p k (fs ∷ d) zero i e h =
    let here : k ≡ i = omega arith in
    subst (λ (n : ℕ). Held (forms_items p n fs) (forms_items p k fs ++ items_from p (suc k) d) 0) here
    (held_first (forms_items p k fs) (items_from p (suc k) d))
kind-held p k (fs ∷ d) (suc o) i e h =
    held_next (forms_items p k fs) (items_from p (suc k) (take o d))
    (kind-held p (suc k) d o i (omega arith) (omega arith))

-- ---- records: of a form in its kind, of a kind in its document

row-held : (k : ℕ) (fs : List Form) (c : Counts) (i : ℕ) → i < length fs
    → Held (row_of k (marks_of k (get_or fs i []) (count_forms k (take i fs) c))) (forms_rows k fs c) (i * stride_of k)
unfolding forms_rows count_forms
row-held k [] c i h = absurd (omega arith)
row-held k (f ∷ fs) c zero h =
    held_at (omega arith) (held_first (row_of k (marks_of k f c)) (forms_rows k fs (count_fields k 0 f c)))
row-held k (f ∷ fs) c (suc i) h =
    held_at (omega (arith, row-long k (marks_of k f c), suc-mul i (stride_of k)))
    (held-behind (row_of k (marks_of k f c)) (row-held k fs (count_fields k 0 f c) i (omega arith)))

rows-held : (k : ℕ) (d : Document) (c : Counts) (o i : ℕ) → i ≡ k + o → o < length d
    → Held (forms_rows i (get_or d o []) (count_kinds k (take o d) c)) (rows_from k d c) (row_words k (take o d))
unfolding rows_from count_kinds row_words
rows-held k [] c o i e h = absurd (omega arith)
rows-held k (fs ∷ d) c zero i e h =
    let here : k ≡ i = omega arith in
    let rest = rows_from (suc k) d (count_forms k fs c) in
    subst (λ (n : ℕ). Held (forms_rows n fs c) (forms_rows k fs c ++ rest) 0) here (held_first (forms_rows k fs c) rest)
rows-held k (fs ∷ d) c (suc o) i e h =
    held_at (ap (λ (n : ℕ). n + row_words (suc k) (take o d)) (forms-long k fs c))
    (held-behind (forms_rows k fs c) (rows-held (suc k) d (count_forms k fs c) o i (omega arith) (omega arith)))

-- ---- form i of kind k

abbrev pub form_of : Document → ℕ → ℕ → Form
form_of d k i = get_or (forms_of d k) i []

-- the items before it
abbrev pub counts_at : Document → ℕ → ℕ → Counts
counts_at d k i = count_forms k (take i (forms_of d k)) (count_kinds 0 (take k d) no_counts)

module _ (d : Document) (k i : ℕ) (within : k < length d) (inside : i < length (forms_of d k)) where
  pub items-held : (p : Pool) → Table p → (j : ℕ) → pool_of k j ≡ p → j < length (form_of d k i)
      → Held (items_of (field_at (form_of d k i) j)) (items_from p 0 d)
      (start_in p (count_fields k 0 (take j (form_of d k i)) (counts_at d k i)))
  items-held p t j e h =
      let f = form_of d k i in
      let fs = forms_of d k in
      held_at
      (omega (
        arith,
        start-fields p t k 0 (take j f) (counts_at d k i),
        start-forms p t k (take i fs) (count_kinds 0 (take k d) no_counts),
        start-kinds p t 0 (take k d) no_counts,
        start_none p,
      ))
      (held_in (held_in (field-held p k 0 f j j (omega arith) e h) (form-held p k fs i inside))
      (kind-held p 0 d k k (omega arith) within))

  pub record-held : Held (row_of k (marks_of k (form_of d k i) (counts_at d k i))) (ids_of d ++ rows_from 0 d no_counts)
      (length (ids_of d) + row_words 0 (take k d) + i * stride_of k)
  record-held =
      held_at (omega arith)
      (held-behind (ids_of d)
      (held_in (row-held k (forms_of d k) (count_kinds 0 (take k d) no_counts) i inside)
      (rows-held 0 d no_counts k k (omega arith) within)))
