-- What reading a document fills is what the document lays: items, records, and how many. Assumes nothing.
use mathlib.Core.Path.{◌≡◌, refl, sym, ap, subst, ◌∙◌}
use mathlib.Core.Bool.{Bool, true, false}
use mathlib.Core.List.{List, [], ◌∷◌, ◌++◌, map-append}
use mathlib.Core.Option.{none, some}
use Prim.Native.Nat.{ℕ, zero, suc, ◌+◌, ◌*◌, ◌≤◌}
use native.Mathlib.Nat.{add-zero, suc-mul}
use native.Mathlib.Omega.{arith}
use borrow.Author.Tests.{ltb-false}
use lib.Dec.{ltb, eqb}
use lib.Ieee.{Float, binary32, of_bits}
use lib.ListN.{length, length-append, length-map}
use lib.Seq.{sets}
use Rattle.model.specs.Lists.{pick}
use Rattle.grammar.specs.Forms.{Field, Form, Document}
use Rattle.scene_schema.specs.declared.Pool.{Pool}
use Rattle.scene_schema.specs.declared.Pool.TheVariants as pool
use Rattle.scene_marks.specs.declared.Mark.{Mark}
use Rattle.scene_marks.specs.Marks.{set_mark, words_from, row_of, stride_of}
use Rattle.scene_forms.specs.declared.Counts.{Counts}
use Rattle.scene_forms.specs.Filled.{Tables, reals_of, pool_of, counts_as, count_items, put_items, Filled, mark_of}
use Rattle.spelling.specs.Pushed.{farthest}
use Rattle.scene_forms.specs.Filled.{put_field, Marked, put_fields, Read, ahead, put_row, opened, put_form}
use Rattle.scene_forms.specs.Filled.{put_forms, afresh, Whole, put_document}
use Rattle.scene_forms.specs.Laid.{items_of, pool_number, fields_items, forms_items, items_from, no_counts}
use Rattle.scene_forms.specs.Laid.{count_field, count_fields, marks_of, forms_rows, count_forms, rows_from}
use Rattle.scene_forms.proofs.MarkLaws.{marks-laid}
use Rattle.scene_forms.proofs.StoreLaws.{sets-append, sets-apart}

-- ---- how many items

-- the counts with the items of each table added
abbrev pub counts_with : (Pool → List ℕ) → Counts → Counts
counts_with items c =
    counts_as (c.ids + length (items pool.Ids)) (c.floats + length (items pool.Floats))
    (c.node_weights + length (items pool.NodeWeights)) (c.mesh_weights + length (items pool.MeshWeights))

-- the items of one pool
abbrev only : Pool → List ℕ → Pool → List ℕ
only p xs q = pick (eqb (pool_number p) (pool_number q)) xs []

counts-append : (xs ys : Pool → List ℕ) (c : Counts)
    → counts_with ys (counts_with xs c) ≡ counts_with (λ p. xs p ++ ys p) c
counts-append xs ys c =
    λ i. counts_as (more c.ids pool.Ids i) (more c.floats pool.Floats i)
    (more c.node_weights pool.NodeWeights i) (more c.mesh_weights pool.MeshWeights i)
  where
    more : (n : ℕ) (p : Pool) → n + length (xs p) + length (ys p) ≡ n + length (xs p ++ ys p)
    more n p = omega (arith, length-append (xs p) (ys p))

count_none : (c : Counts) → c ≡ counts_with (λ p. []) c
count_none c = simp add-zero

count-items : (p : Pool) (xs : List ℕ) (c : Counts) → count_items p (length xs) c ≡ counts_with (only p xs) c
count-items pool.Number xs c = simp add-zero
count-items pool.Bits xs c = simp add-zero
count-items pool.Ids xs c = simp add-zero
count-items pool.Floats xs c = simp add-zero
count-items pool.NodeWeights xs c = simp add-zero
count-items pool.MeshWeights xs c = simp add-zero

only_none : (p q : Pool) → [] ≡ only p [] q
only_none p q = none_of (eqb (pool_number p) (pool_number q))
  where
    none_of : (b : Bool) → ◌≡◌ {A = List ℕ} [] (pick b [] [])
    none_of true = refl
    none_of false = refl

module _ (k : ℕ) where
  count-field : (j : ℕ) (f : Field) (c : Counts) → count_field k j f c ≡ counts_with (only (pool_of k j) (items_of f)) c
  count-field j none c = count_none c ∙ (λ i. counts_with (λ p. only_none (pool_of k j) p i) c)
  count-field j (some xs) c = count-items (pool_of k j) xs c

  pub count-fields : (j : ℕ) (f : Form) (c : Counts) → count_fields k j f c ≡ counts_with (λ p. fields_items p k j f) c
  unfolding count_fields fields_items
  count-fields j [] c = count_none c
  count-fields j (f ∷ fs) c =
      count-fields (suc j) fs (count_field k j f c)
      ∙ ap (counts_with (λ p. fields_items p k (suc j) fs)) (count-field j f c)
      ∙ counts-append (only (pool_of k j) (items_of f)) (λ p. fields_items p k (suc j) fs) c

  pub count-forms : (fs : List Form) (c : Counts) → count_forms k fs c ≡ counts_with (λ p. forms_items p k fs) c
  unfolding count_forms forms_items
  count-forms [] c = count_none c
  count-forms (f ∷ fs) c =
      count-forms fs (count_fields k 0 f c)
      ∙ ap (counts_with (λ p. forms_items p k fs)) (count-fields 0 f c)
      ∙ counts-append (λ p. fields_items p k 0 f) (λ p. forms_items p k fs) c

-- ---- what is laid

-- from the tables t to the tables u the items go behind those of each table, and the records stand from `at` to `next`
pub record Laid (items : Pool → List ℕ) (records : List ℕ) (t : Tables) (at : ℕ) (u : Tables) (next : ℕ) : Type 0 where
  pub counts : u.counts ≡ counts_with items t.counts
  pub floats : u.floats ≡ sets t.floats t.counts.floats (reals_of (items pool.Floats))
  pub node_weights : u.node_weights
      ≡ sets t.node_weights t.counts.node_weights (reals_of (items pool.NodeWeights))
  pub mesh_weights : u.mesh_weights
      ≡ sets t.mesh_weights t.counts.mesh_weights (reals_of (items pool.MeshWeights))
  pub rows : at + length records ≤ farthest → next ≡ at + length records
  pub words : t.counts.ids + length (items pool.Ids) ≤ at → at + length records ≤ farthest
      → u.words ≡ sets (sets t.words t.counts.ids (items pool.Ids)) at records

-- the same of what is read
abbrev pub ReadLaid : (Pool → List ℕ) → List ℕ → Read → Read → Type 0
ReadLaid items records r s = Laid items records r.filled.tables r.rows s.filled.tables s.rows

items-laid : {items : Pool → List ℕ} {t u : Tables} {at : ℕ} → u.counts ≡ counts_with items t.counts
    → u.words ≡ sets t.words t.counts.ids (items pool.Ids)
    → u.floats ≡ sets t.floats t.counts.floats (reals_of (items pool.Floats))
    → u.node_weights ≡ sets t.node_weights t.counts.node_weights (reals_of (items pool.NodeWeights))
    → u.mesh_weights ≡ sets t.mesh_weights t.counts.mesh_weights (reals_of (items pool.MeshWeights))
    → Laid items [] t at u at
items-laid c w f n m = record {
  counts = c;
  floats = f;
  node_weights = n;
  mesh_weights = m;
  rows = λ h. omega arith;
  words = λ g h. w;
}

laid_none : {t : Tables} {at : ℕ} → Laid (λ p. []) [] t at t at
laid_none {t} = items-laid (count_none t.counts) refl refl refl refl

reals-append : (l : List Float) (i : ℕ) (xs ys : List ℕ)
    → sets (sets l i (reals_of xs)) (i + length xs) (reals_of ys) ≡ sets l i (reals_of (xs ++ ys))
reals-append l i xs ys =
    (λ j. sets (sets l i (reals_of xs)) (i + sym (length-map xs (of_bits binary32)) j) (reals_of ys))
    ∙ sym (sets-append l i (reals_of xs) (reals_of ys))
    ∙ ap (sets l i) (sym (map-append (of_bits binary32) xs ys))

-- ids that end before the records do not meet them
words_append : (l : List ℕ) (i : ℕ) (xs ys : List ℕ) (at : ℕ) (a b : List ℕ) → i + length xs + length ys ≤ at
    → sets (sets (sets (sets l i xs) at a) (i + length xs) ys) (at + length a) b
    ≡ sets (sets l i (xs ++ ys)) at (a ++ b)
words_append l i xs ys at a b h =
    ap (λ (s : List ℕ). sets s (at + length a) b)
    (sets-apart (sets l i xs) (i + length xs) ys at a h
    ∙ ap (λ (s : List ℕ). sets s at a) (sym (sets-append l i xs ys)))
    ∙ sym (sets-append (sets l i (xs ++ ys)) at a b)

laid-append : {xs ys : Pool → List ℕ} {a b : List ℕ} {t u v : Tables} {at mid next : ℕ}
    → Laid xs a t at u mid → Laid ys b u mid v next → Laid (λ p. xs p ++ ys p) (a ++ b) t at v next
laid-append {xs} {ys} {a} {b} {t} {u} {v} {at} {mid} {next} p q =
    let c = t.counts in
    let la = length-append a b in
    let li = length-append (xs pool.Ids) (ys pool.Ids) in
    record {
      counts = q.counts ∙ ap (counts_with ys) p.counts ∙ counts-append xs ys c;
      floats = q.floats ∙ (λ i. sets (p.floats i) (p.counts i).floats (reals_of (ys pool.Floats)))
          ∙ reals-append t.floats c.floats (xs pool.Floats) (ys pool.Floats);
      node_weights = q.node_weights
          ∙ (λ i. sets (p.node_weights i) (p.counts i).node_weights (reals_of (ys pool.NodeWeights)))
          ∙ reals-append t.node_weights c.node_weights (xs pool.NodeWeights) (ys pool.NodeWeights);
      mesh_weights = q.mesh_weights
          ∙ (λ i. sets (p.mesh_weights i) (p.counts i).mesh_weights (reals_of (ys pool.MeshWeights)))
          ∙ reals-append t.mesh_weights c.mesh_weights (xs pool.MeshWeights) (ys pool.MeshWeights);
      rows = λ h.
          let m : mid ≡ at + length a = p.rows (omega arith) in
          let n : next ≡ mid + length b = q.rows (omega arith) in
          omega arith;
      words = λ g h.
          let m : mid ≡ at + length a = p.rows (omega arith) in
          let n : u.counts.ids ≡ c.ids + length (xs pool.Ids) = ap (λ (x : Counts). x.ids) p.counts in
          q.words (omega arith) (omega arith)
          ∙ (λ i. sets (sets (p.words (omega arith) (omega arith) i) (n i) (ys pool.Ids)) (m i) b)
          ∙ words_append t.words c.ids (xs pool.Ids) (ys pool.Ids) at a b (omega arith);
    }

pool-laid : (p : Pool) (xs : List ℕ) (t : Tables) {at : ℕ} → Laid (only p xs) [] t at (put_items p xs t) at
pool-laid pool.Number xs t = items-laid (count-items pool.Number xs t.counts) refl refl refl refl
pool-laid pool.Bits xs t = items-laid (count-items pool.Bits xs t.counts) refl refl refl refl
pool-laid pool.Ids xs t = items-laid (count-items pool.Ids xs t.counts) refl refl refl refl
pool-laid pool.Floats xs t = items-laid (count-items pool.Floats xs t.counts) refl refl refl refl
pool-laid pool.NodeWeights xs t = items-laid (count-items pool.NodeWeights xs t.counts) refl refl refl refl
pool-laid pool.MeshWeights xs t = items-laid (count-items pool.MeshWeights xs t.counts) refl refl refl refl

-- ---- a record

words_long : (n k w : ℕ) (marks : List Mark) → length (words_from n k w marks) ≡ n
unfolding words_from
words_long zero k w marks = refl
words_long (suc n) k w marks = ap suc (words_long n k (w + 1) marks)

pub row-long : (k : ℕ) (marks : List Mark) → length (row_of k marks) ≡ stride_of k
row-long k marks = words_long (stride_of k) k 0 marks

ahead-near : (at n : ℕ) → at + n ≤ farthest → ahead at n ≡ at + n
ahead-near at n h = go (ltb at farthest) refl
  where
    go : (b : Bool) → ltb at farthest ≡ b → pick b (at + n) at ≡ at + n
    go true e = refl
    go false e = omega (arith, ltb-false at farthest e)

row_laid : {items : Pool → List ℕ} {t u : Tables} {at : ℕ} (k : ℕ) {marks laid : List Mark} → marks ≡ laid
    → Laid items [] t at u at → Laid items (row_of k laid) t at (put_row k at marks u) (ahead at (stride_of k))
row_laid {at = at} k {laid = laid} e p =
    let long = row-long k laid in
    record {
      counts = p.counts;
      floats = p.floats;
      node_weights = p.node_weights;
      mesh_weights = p.mesh_weights;
      rows = λ h. ahead-near at (stride_of k) (omega arith) ∙ ap (λ (n : ℕ). at + n) (sym long);
      words = λ g h i. sets (p.words g (omega arith) i) at (row_of k (e i));
    }

-- ---- the fields of a form, and the forms of a kind

module _ (text : List ℕ) (k : ℕ) where
  field-laid : (j : ℕ) (f : Field) (s : Filled) {at : ℕ}
      → Laid (only (pool_of k j) (items_of f)) [] s.tables at (put_field text k j f s).tables at
  field-laid j none s {at} =
      subst (λ (items : Pool → List ℕ). Laid items [] s.tables at s.tables at)
      (λ i p. only_none (pool_of k j) p i) laid_none
  field-laid j (some xs) s = pool-laid (pool_of k j) xs s.tables

  abbrev stepped : ℕ → Field → Marked → Marked
  stepped j f s = record {
    marks = set_mark s.marks j (mark_of k j f s.filled);
    filled = put_field text k j f s.filled;
  }

  fields_laid : (j : ℕ) (f : Form) (s : Marked) {at : ℕ}
      → Laid (λ p. fields_items p k j f) [] s.filled.tables at (put_fields text k j f s).filled.tables at
  unfolding put_fields fields_items
  fields_laid j [] s = laid_none
  fields_laid j (f ∷ fs) s = laid-append (field-laid j f s.filled) (fields_laid (suc j) fs (stepped j f s))

  pub form-laid : (f : Form) (r : Read)
      → ReadLaid (λ p. fields_items p k 0 f) (row_of k (marks_of k f r.filled.tables.counts)) r (put_form text k f r)
  unfolding put_form
  form-laid f r = row_laid k (marks-laid text k f r.filled) (fields_laid 0 f (opened text k r.filled))

  pub form-counted : (f : Form) (r : Read)
      → (put_form text k f r).filled.tables.counts ≡ count_fields k 0 f r.filled.tables.counts
  form-counted f r = (form-laid f r).counts ∙ sym (count-fields k 0 f r.filled.tables.counts)

  pub forms-laid : (fs : List Form) (r : Read)
      → ReadLaid (λ p. forms_items p k fs) (forms_rows k fs r.filled.tables.counts) r (put_forms text k fs r)
  unfolding put_forms forms_items forms_rows
  forms-laid [] r = laid_none
  forms-laid (f ∷ fs) r =
      let s = put_form text k f r in
      laid-append (form-laid f r)
      (subst (λ (c : Counts). ReadLaid (λ p. forms_items p k fs) (forms_rows k fs c) s (put_forms text k fs s))
      (form-counted f r) (forms-laid fs s))

  pub forms-counted : (fs : List Form) (r : Read)
      → (put_forms text k fs r).filled.tables.counts ≡ count_forms k fs r.filled.tables.counts
  forms-counted fs r = (forms-laid fs r).counts ∙ sym (count-forms k fs r.filled.tables.counts)

-- ---- a document

pub document-laid : (text : List ℕ) (k : ℕ) (d : Document) (w : Whole)
    → ReadLaid (λ p. items_from p k d) (rows_from k d w.read.filled.tables.counts) w.read
    (put_document text k d w).read
unfolding put_document items_from rows_from
document-laid text k [] w = laid_none
document-laid text k (fs ∷ d) w =
    let r = put_forms text k fs (afresh w.read) in
    let x : Whole = record { reaches = w.reaches ++ (r.reach ∷ []); read = r } in
    laid-append (forms-laid text k fs (afresh w.read))
    (subst (λ (c : Counts). ReadLaid (λ p. items_from p (suc k) d) (rows_from (suc k) d c) r
    (put_document text (suc k) d x).read) (forms-counted text k fs (afresh w.read)) (document-laid text (suc k) d x))

-- all of a document, where the records begin at the end of the ids
pub whole_words : (text : List ℕ) (d : Document) (w : Whole) → w.read.filled.tables.counts ≡ no_counts
    → w.read.rows ≡ length (items_from pool.Ids 0 d) → w.read.rows + length (rows_from 0 d no_counts) ≤ farthest
    → (put_document text 0 d w).read.filled.tables.words
    ≡ sets w.read.filled.tables.words 0 (items_from pool.Ids 0 d ++ rows_from 0 d no_counts)
whole_words text d w e at h =
    let l = w.read.filled.tables.words in
    let ids = items_from pool.Ids 0 d in
    let none_yet : w.read.filled.tables.counts.ids ≡ 0 = ap (λ (c : Counts). c.ids) e in
    let m : w.read.rows ≡ 0 + length ids = omega arith in
    let long = ap (λ (c : Counts). length (rows_from 0 d c)) e in
    (document-laid text 0 d w).words (omega arith) (omega arith)
    ∙ (λ i. sets (sets l (e i).ids ids) (m i) (rows_from 0 d (e i)))
    ∙ sym (sets-append l 0 ids (rows_from 0 d no_counts))

-- ---- how many words the records have

unfoldable pub row_words : ℕ → Document → ℕ
row_words k [] = 0
row_words k (fs ∷ d) = length fs * stride_of k + row_words (suc k) d

pub forms-long : (k : ℕ) (fs : List Form) (c : Counts) → length (forms_rows k fs c) ≡ length fs * stride_of k
unfolding forms_rows
forms-long k [] c = omega arith
forms-long k (f ∷ fs) c =
    length-append (row_of k (marks_of k f c)) (forms_rows k fs (count_fields k 0 f c))
    ∙ omega (arith, row-long k (marks_of k f c), forms-long k fs (count_fields k 0 f c), suc-mul (length fs) (stride_of k))

pub rows_long : (k : ℕ) (d : Document) (c : Counts) → length (rows_from k d c) ≡ row_words k d
unfolding rows_from row_words
rows_long k [] c = refl
rows_long k (fs ∷ d) c =
    length-append (forms_rows k fs c) (rows_from (suc k) d (count_forms k fs c))
    ∙ (λ i. forms-long k fs c i + rows_long (suc k) d (count_forms k fs c) i)
