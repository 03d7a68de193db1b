-- The tables of a document that has its shape are no longer than its text. Assumes nothing.
use mathlib.Core.Path.{◌≡◌, refl, sym, ap, ◌∙◌}
use mathlib.Core.Bool.{Bool, true, ◌&&◌, ◌||◌, not}
use mathlib.Core.List.{List, [], ◌∷◌, ◌++◌}
use Prim.Native.Nat.{ℕ, suc, ◌+◌, ◌*◌, ◌≤◌, ◌<◌}
use native.Mathlib.Nat.{suc-mul, add-mul}
use native.Mathlib.Omega.{arith}
use borrow.Author.Tests.{leb-true}
use lib.Dec.{T, leb, eqb}
use lib.Ieee.{binary32, of_bits}
use lib.ListN.{length, drop, length-append, length-map}
use Rattle.model.specs.Lists.{every, tabulate}
use Rattle.grammar.specs.Forms.{Kind, Form, Document, fields_text, form_text, forms_text, document_text}
use Rattle.grammar.specs.Forms.{FitsSlots, FitsKind, FitsKinds}
use Rattle.grammar.specs.Shape.{fields_hold, groups_hold, form_holds, kind_holds, holds}
use Rattle.grammar.proofs.Words.{both}
use Rattle.scene_schema.specs.declared.Pool.{Pool}
use Rattle.scene_schema.specs.declared.Pool.TheVariants as pool
use Rattle.scene_schema.specs.Schema.{kinds, kind_at}
use Rattle.scene_schema.specs.Numbers.{sort_of}
use Rattle.scene_schema.proofs.Tables.{at_each}
use Rattle.scene_marks.specs.Marks.{stride_of, row_of}
use Rattle.scene_forms.specs.declared.Counts.{Counts}
use Rattle.scene_forms.specs.Filled.{reals_of}
use Rattle.scene_forms.specs.Laid.{fields_items, forms_items, items_from, no_counts, count_fields, marks_of, forms_rows}
use Rattle.scene_forms.specs.Laid.{count_forms, rows_from}
use Rattle.scene_forms.specs.Said.{ids_of, tables_of}
use Rattle.scene_forms.proofs.TextLaws.{by-kinds}
use Rattle.scene_forms.proofs.TableLaws.{row-long}
use Rattle.text_sizes.specs.Few.{FewerThan}
use Rattle.text_sizes.proofs.Items.{least, fields-long, needed, needed-long}

-- ---- the text of a form is its fields' with its brackets, its title and its line's end

form-text : (k : Kind) (f : Form) → length (form_text k f) ≡ 3 + length k.title + length (fields_text k.slots f)
form-text k f =
    omega (
      arith,
      length-append (k.title ++ fields_text k.slots f) (41 ∷ 10 ∷ []),
      length-append k.title (fields_text k.slots f),
    )

-- ---- the items of a pool

forms-few : (p : Pool) (k : ℕ) → k < 9 → (fs : List Form) → FitsKind (kind_at k) fs
    → length (forms_items p k fs) * least (sort_of p) ≤ length (forms_text (kind_at k) fs)
unfolding forms_items forms_text
forms-few p k h [] l = omega arith
forms-few p k h (f ∷ fs) l =
    let rest = forms_items p k fs in
    omega (
      arith,
      fields-long p k h 0 (kind_at k).slots f refl l.0,
      forms-few p k h fs l.1,
      form-text (kind_at k) f,
      add-mul (length (fields_items p k 0 f)) (length rest) (least (sort_of p)),
      ap (λ (n : ℕ). n * least (sort_of p)) (length-append (fields_items p k 0 f) rest),
      length-append (form_text (kind_at k) f) (forms_text (kind_at k) fs),
    )

items-few : (p : Pool) (k : ℕ) (ks : List Kind) (d : Document) → ks ≡ drop k kinds → FitsKinds ks d
    → length (items_from p k d) * least (sort_of p) ≤ length (document_text ks d)
unfolding items_from document_text
items-few p = by-kinds
    (λ k ks d. length (items_from p k d) * least (sort_of p) ≤ length (document_text ks d))
    (λ k. omega arith)
    (λ k ks fs d h l more.
    let rest = items_from p (suc k) d in
    omega (
      arith,
      more,
      forms-few p k h fs l,
      add-mul (length (forms_items p k fs)) (length rest) (least (sort_of p)),
      ap (λ (n : ℕ). n * least (sort_of p)) (length-append (forms_items p k fs) rest),
      length-append (forms_text (kind_at k) fs) (document_text ks d),
    ))

-- ---- ids and records

-- the text of a form that has just what must be there has a byte for each word of its record
stride-needed : (k : ℕ) → k < 9 → stride_of k ≤ 3 + length (kind_at k).title + needed (kind_at k).slots
unfolding tabulate kinds needed
stride-needed k h =
    leb-true _ _
    (at_each 9 (λ k. leb (stride_of k) (3 + length (kind_at k).title + needed (kind_at k).slots)) (λ k. true) refl k h)

rows_few : (k : ℕ) → k < 9 → (fs : List Form) (c : Counts) → FitsKind (kind_at k) fs
    → T (every (form_holds (kind_at k)) fs)
    → length (forms_items pool.Ids k fs) + length (forms_rows k fs c) ≤ length (forms_text (kind_at k) fs)
unfolding forms_items forms_rows forms_text every
rows_few k h [] c l t = omega arith
rows_few k h (f ∷ fs) c l t =
    let kind = kind_at k in
    let q = both (form_holds kind f) (every (form_holds kind) fs) t in
    let g = (both (fields_hold kind.slots f) (groups_hold kind.slots f) q.0).1 in
    let rest = forms_items pool.Ids k fs in
    let rows = forms_rows k fs (count_fields k 0 f c) in
    omega (
      arith,
      needed-long pool.Ids k 0 kind.slots f refl l.0 g,
      rows_few k h fs (count_fields k 0 f c) l.1 q.1,
      stride-needed k h,
      form-text kind f,
      row-long k (marks_of k f c),
      length-append (fields_items pool.Ids k 0 f) rest,
      length-append (row_of k (marks_of k f c)) rows,
      length-append (form_text kind f) (forms_text kind fs),
    )

words-few : (k : ℕ) (ks : List Kind) (d : Document) → ks ≡ drop k kinds → FitsKinds ks d
    → (c : Counts) → T (holds ks d)
    → length (items_from pool.Ids k d) + length (rows_from k d c) ≤ length (document_text ks d)
unfolding items_from rows_from document_text holds
words-few = by-kinds
    (λ k ks d. (c : Counts) → T (holds ks d)
    → length (items_from pool.Ids k d) + length (rows_from k d c) ≤ length (document_text ks d))
    (λ k c t. omega arith)
    (λ k ks fs d h l more c t.
    let kind = kind_at k in
    let q = both (kind_holds kind fs) (holds ks d) t in
    let e = (both (every (form_holds kind) fs) (not kind.single || eqb (length fs) 1) q.0).0 in
    omega (
      arith,
      more (count_forms k fs c) q.1,
      rows_few k h fs c l e,
      length-append (forms_items pool.Ids k fs) (items_from pool.Ids (suc k) d),
      length-append (forms_rows k fs c) (rows_from (suc k) d (count_forms k fs c)),
      length-append (forms_text kind fs) (document_text ks d),
    ))

-- ---- the tables

real-count : (xs : List ℕ) → length (reals_of xs) ≡ length xs
real-count xs = length-map xs (of_bits binary32)

pub tables-few : (d : Document) → FitsKinds kinds d → T (holds kinds d) → FewerThan (length (document_text kinds d)) d
unfolding tables_of
tables-few d l t = record {
  words = omega (arith, words-few 0 kinds d refl l no_counts t, length-append (ids_of d) (rows_from 0 d no_counts));
  floats = omega (arith, items-few pool.Floats 0 kinds d refl l, real-count (items_from pool.Floats 0 d));
  node_weights =
      omega (arith, items-few pool.NodeWeights 0 kinds d refl l, real-count (items_from pool.NodeWeights 0 d));
  mesh_weights =
      omega (arith, items-few pool.MeshWeights 0 kinds d refl l, real-count (items_from pool.MeshWeights 0 d));
}
