-- The fields of a form in numbers, as they are laid: what is marked at each slot. Assumes nothing.
use mathlib.Core.Path.{◌≡◌, refl, sym, ap, ◌∙◌}
use mathlib.Core.List.{List, [], ◌∷◌}
use mathlib.Core.Option.{none, some}
use Prim.Native.Nat.{ℕ, zero, suc, ◌+◌, ◌≤◌, ◌<◌}
use native.Mathlib.Omega.{arith}
use lib.ListN.{length, get_or, take, replicate, length-set, length-replicate}
use lib.Seq.{get_or-set_same, get_or-set_other}
use Rattle.grammar.specs.Forms.{Field, Form}
use Rattle.scene_schema.specs.declared.Pool.{Pool}
use Rattle.scene_schema.specs.declared.Pool.TheVariants as pool
use Rattle.scene_marks.specs.declared.Mark.{Mark}
use Rattle.scene_marks.specs.Marks.{clear, no_mark, set_mark, mark_at}
use Rattle.scene_forms.specs.declared.Counts.{Counts}
use Rattle.scene_forms.specs.Filled.{pool_of, count_items, Tables, put_items, Filled, mark_of, put_field}
use Rattle.scene_forms.specs.Filled.{Marked, put_fields, opened}
use Rattle.scene_forms.specs.Laid.{items_of, field_at, item_of, mark_in, count_field, count_fields, marks_from, marks_of}

-- ---- one mark

mark-same : (marks : List Mark) (j : ℕ) (m : Mark) → length marks ≡ 16 → j < 16
    → mark_at (set_mark marks j m) j ≡ m
mark-same marks j m h l = get_or-set_same marks j m no_mark (omega arith)

mark-other : (marks : List Mark) (i j : ℕ) (m : Mark) → (i ≡ j → ⊥)
    → mark_at (set_mark marks j m) i ≡ mark_at marks i
mark-other marks i j m apart = get_or-set_other marks j i m no_mark (λ e. apart (omega arith))

none-at : (n i : ℕ) → get_or (replicate n no_mark) i no_mark ≡ no_mark
none-at zero i = refl
none-at (suc n) zero = refl
none-at (suc n) (suc i) = none-at n i

-- ---- the marks of a form

marks-before : (k j : ℕ) (f : Form) (c : Counts) (marks : List Mark) (i : ℕ) → i < j
    → mark_at (marks_from k j f c marks) i ≡ mark_at marks i
unfolding marks_from
marks-before k j [] c marks i h = refl
marks-before k j (x ∷ f) c marks i h =
    marks-before k (suc j) f (count_field k j x c) (set_mark marks j (mark_in k j x c)) i (omega arith)
    ∙ mark-other marks i j (mark_in k j x c) (λ e. omega arith)

marks-from : (k j : ℕ) (f : Form) (c : Counts) (marks : List Mark) → length marks ≡ 16 → j + length f ≤ 16
    → ((i : ℕ) → j ≤ i → mark_at marks i ≡ no_mark) → (o i : ℕ) → i ≡ j + o
    → mark_at (marks_from k j f c marks) i ≡ mark_in k i (get_or f o none) (count_fields k j (take o f) c)
unfolding marks_from count_fields
marks-from k j [] c marks l h none_yet o i e = none_yet i (omega arith)
marks-from k j (x ∷ f) c marks l h none_yet zero i e =
    let m = mark_in k j x c in
    let here : i ≡ j = omega arith in
    marks-before k (suc j) f (count_field k j x c) (set_mark marks j m) i (omega arith)
    ∙ ap (mark_at (set_mark marks j m)) here
    ∙ mark-same marks j m l (omega arith)
    ∙ ap (λ (n : ℕ). mark_in k n x c) (sym here)
marks-from k j (x ∷ f) c marks l h none_yet (suc o) i e =
    let m = mark_in k j x c in
    marks-from k (suc j) f (count_field k j x c) (set_mark marks j m)
    (length-set marks j m ∙ l) (omega arith)
    (λ i h. mark-other marks i j m (λ e. omega arith) ∙ none_yet i (omega arith)) o i (omega arith)

-- a field is marked at its slot, and no other slot is marked: `field_at` is none past the last field
pub mark-laid : (k : ℕ) (f : Form) (c : Counts) (j : ℕ) → length f ≤ 16
    → mark_at (marks_of k f c) j ≡ mark_in k j (field_at f j) (count_fields k 0 (take j f) c)
mark-laid k f c j h =
    marks-from k 0 f c clear (length-replicate 16 no_mark) (omega arith) (λ i l. none-at 16 i) j j (omega arith)

abbrev pub there_in : Field → ℕ
there_in none = 0
there_in (some xs) = 1

-- what that mark says; where the items start is by the counts
pub mark-told : (k : ℕ) (f : Form) (c : Counts) (j : ℕ) → length f ≤ 16 → mark_at (marks_of k f c) j ≡ record {
  there = there_in (field_at f j);
  start = (mark_in k j (field_at f j) (count_fields k 0 (take j f) c)).start;
  count = length (items_of (field_at f j));
  first = item_of f j 0;
  second = item_of f j 1;
}
mark-told k f c j h = mark-laid k f c j h ∙ told (field_at f j) (count_fields k 0 (take j f) c)
  where
    told : (x : Field) (c : Counts) → mark_in k j x c ≡ record {
      there = there_in x;
      start = (mark_in k j x c).start;
      count = length (items_of x);
      first = get_or (items_of x) 0 0;
      second = get_or (items_of x) 1 0;
    }
    told none c = refl
    told (some xs) c = refl

-- ---- the marks of a form that is put

items-counted : (p : Pool) (xs : List ℕ) (t : Tables)
    → (put_items p xs t).counts ≡ count_items p (length xs) t.counts
items-counted pool.Number xs t = refl
items-counted pool.Bits xs t = refl
items-counted pool.Ids xs t = refl
items-counted pool.Floats xs t = refl
items-counted pool.NodeWeights xs t = refl
items-counted pool.MeshWeights xs t = refl

module _ (text : List ℕ) (k : ℕ) where
  field-counts : (j : ℕ) (x : Field) (s : Filled)
      → (put_field text k j x s).tables.counts ≡ count_field k j x s.tables.counts
  field-counts j none s = refl
  field-counts j (some xs) s = items-counted (pool_of k j) xs s.tables

  field-mark : (j : ℕ) (x : Field) (s : Filled) → mark_of k j x s ≡ mark_in k j x s.tables.counts
  field-mark j none s = refl
  field-mark j (some xs) s = refl

  -- from a slot on
  fields-counts : (j : ℕ) (f : Form) (s : Marked)
      → (put_fields text k j f s).filled.tables.counts ≡ count_fields k j f s.filled.tables.counts
  unfolding put_fields count_fields
  fields-counts j [] s = refl
  fields-counts j (x ∷ f) s =
      fields-counts (suc j) f _ ∙ ap (count_fields k (suc j) f) (field-counts j x s.filled)

  fields-marks : (j : ℕ) (f : Form) (s : Marked)
      → (put_fields text k j f s).marks ≡ marks_from k j f s.filled.tables.counts s.marks
  unfolding put_fields marks_from
  fields-marks j [] s = refl
  fields-marks j (x ∷ f) s =
      fields-marks (suc j) f _
      ∙ (λ t. marks_from k (suc j) f (field-counts j x s.filled t)
      (set_mark s.marks j (field-mark j x s.filled t)))

  pub marks-laid : (f : Form) (s : Filled)
      → (put_fields text k 0 f (opened text k s)).marks ≡ marks_of k f s.tables.counts
  marks-laid f s = fields-marks 0 f (opened text k s)
