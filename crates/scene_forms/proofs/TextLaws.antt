-- A document that is put: its text is what the text is compared with, how far its lists of records reach is told kind
-- by kind, and its scene form says what is asked for. Assumes nothing.
use mathlib.Core.Path.{◌≡◌, refl, sym, ap, subst, ◌∙◌}
use mathlib.Core.List.{List, [], ◌∷◌, ◌++◌, append-nil}
use mathlib.Core.Option.{none, some}
use Prim.Native.Nat.{ℕ, zero, suc, ◌+◌, ◌%◌, ◌≤◌, ◌<◌, max}
use native.Mathlib.Nat.{mod-eq_of_lt, zero-max}
use native.Mathlib.Omega.{arith}
use lib.Dec.{eqb-suc-zero}
use lib.ListN.{length, get_or, take, drop, length-drop}
use lib.Seq.{drop-cons, append_snoc}
use Rattle.grammar.specs.Digits.{items_text}
use Rattle.grammar.specs.Forms.{Slot, Kind, Field, Form, Document}
use Rattle.grammar.specs.Forms.{field_text, fields_text, form_text, forms_text, document_text}
use Rattle.grammar.specs.Forms.{Small, FitsSlots, FitsKind, FitsKinds}
use Rattle.brackets.specs.Met.{meets}
use Rattle.brackets.proofs.MeetingLaws.{meets-append}
use Rattle.scene_schema.specs.Schema.{kinds, kind_at, slot_at, no_kind, no_slot}
use Rattle.scene_schema.proofs.Numbers.{kind-is}
use Rattle.scene_marks.specs.declared.Mark.{Mark}
use Rattle.scene_forms.specs.declared.Counts.{Counts}
use Rattle.scene_forms.specs.Filled.{Filled, put_field, Marked, put_fields, opened, Read, list_slot, reach_in}
use Rattle.scene_forms.specs.Filled.{request_in, put_form, put_forms, afresh, Whole, put_document}
use Rattle.scene_forms.specs.Laid.{field_at, item_of, no_counts, mark_in, count_field, count_fields, marks_of}
use Rattle.scene_forms.specs.Laid.{reach_of, reaches_from, request_of}
use Rattle.scene_forms.proofs.MarkLaws.{mark-told, marks-laid}

-- ---- by kinds, and by slots

-- x and xs are a list from i on
pub record Rest {A : Type 0} (l : List A) (d : A) (i : ℕ) (x : A) (xs : List A) : Type 0 where
  pub inside : i < length l
  pub first : x ≡ get_or l i d
  pub others : xs ≡ drop (suc i) l

pub rest_of : {A : Type 0} (l : List A) (d : A) (i : ℕ) (x : A) (xs : List A) → x ∷ xs ≡ drop i l → Rest l d i x xs
rest_of {A} l d i x xs e =
    let h : i < length l = omega (arith, ap length e, length-drop i l) in
    let c = e ∙ drop-cons l i d h in
    record { inside = h; first = ap (λ (r : List A). get_or r 0 d) c; others = ap (drop 1) c }

kinds-count : length kinds ≡ 9
unfolding kinds
kinds-count = refl

-- what holds of no kinds, and of one kind more, holds of the kinds from k on and a document that fits them
pub by-kinds : (P : ℕ → List Kind → Document → Type 0) → ((k : ℕ) → P k [] [])
    → ((k : ℕ) (ks : List Kind) (fs : List Form) (d : Document) → k < 9 → FitsKind (kind_at k) fs → P (suc k) ks d
    → P k (kind_at k ∷ ks) (fs ∷ d))
    → (k : ℕ) (ks : List Kind) (d : Document) → ks ≡ drop k kinds → FitsKinds ks d → P k ks d
by-kinds P over more k [] [] e h = over k
by-kinds P over more k [] (fs ∷ d) e h = absurd h
by-kinds P over more k (q ∷ ks) [] e h = absurd h
by-kinds P over more k (q ∷ ks) (fs ∷ d) e h =
    let c = rest_of kinds no_kind k q ks e in
    subst (λ (x : Kind). P k (x ∷ ks) (fs ∷ d)) (sym c.first)
    (more k ks fs d (omega (arith, kinds-count)) (subst (λ (x : Kind). FitsKind x fs) c.first h.0)
    (by-kinds P over more (suc k) ks d c.others h.1))

-- the same of the slots of kind k from slot j on
pub by_slots : (k : ℕ) (P : ℕ → List Slot → Form → Type 0) → ((j : ℕ) → P j [] [])
    → ((j : ℕ) (ts : List Slot) (x : Field) (f : Form) → j < length (kind_at k).slots → P (suc j) ts f
    → P j (slot_at k j ∷ ts) (x ∷ f))
    → (j : ℕ) (ts : List Slot) (f : Form) → ts ≡ drop j (kind_at k).slots → FitsSlots ts f → P j ts f
by_slots k P over more j [] [] e h = over j
by_slots k P over more j [] (x ∷ f) e h = absurd h
by_slots k P over more j (t ∷ ts) [] e h = absurd h
by_slots k P over more j (t ∷ ts) (x ∷ f) e h =
    let c = rest_of (kind_at k).slots no_slot j t ts e in
    subst (λ (y : Slot). P j (y ∷ ts) (x ∷ f)) (sym c.first)
    (more j ts x f c.inside (by_slots k P over more (suc j) ts f c.others h.1))

-- ---- a form of the schema

pub form-long : (ts : List Slot) (f : Form) → FitsSlots ts f → length f ≡ length ts
form-long [] [] h = refl
form-long [] (x ∷ f) h = absurd h
form-long (t ∷ ts) [] h = absurd h
form-long (t ∷ ts) (x ∷ f) h = ap suc (form-long ts f h.1)

pub form-few : (k : ℕ) (f : Form) → k < 9 → FitsSlots (kind_at k).slots f → length f ≤ 16
form-few k f h l = omega (arith, form-long (kind_at k).slots f l, (kind-is k h).few)

small_at : (xs : List ℕ) (o : ℕ) → Small xs → get_or xs o 0 < 0x1_0000_0000
small_at [] o h = omega arith
small_at (x ∷ xs) zero h = h.0
small_at (x ∷ xs) (suc o) h = small_at xs o h.1

pub item-small : (ts : List Slot) (f : Form) (j o : ℕ) → FitsSlots ts f → item_of f j o < 0x1_0000_0000
item-small [] [] j o h = omega arith
item-small [] (x ∷ f) j o h = absurd h
item-small (t ∷ ts) [] j o h = absurd h
item-small (t ∷ ts) (none ∷ f) zero o h = omega arith
item-small (t ∷ ts) (some xs ∷ f) zero o h = small_at xs o h.0
item-small (t ∷ ts) (x ∷ f) (suc j) o h = item-small ts f j o h.1

-- its first two fields, where it is a scene form, go to no table
node-apart : (x : Field) (c : Counts) → count_field 0 0 x c ≡ c
node-apart none c = refl
node-apart (some xs) c = refl

time-apart : (x : Field) (c : Counts) → count_field 0 1 x c ≡ c
time-apart none c = refl
time-apart (some xs) c = refl

pub roots-first : (f : Form) (c : Counts) → count_fields 0 0 (take 2 f) c ≡ c
unfolding count_fields
roots-first [] c = refl
roots-first (x ∷ []) c = node-apart x c
roots-first (x ∷ y ∷ f) c = time-apart y (count_field 0 0 x c) ∙ node-apart x c

roots-start : (x : Field) → (mark_in 0 2 x no_counts).start ≡ 0
roots-start none = refl
roots-start (some xs) = refl

module _ (text : List ℕ) where
  -- ---- what the text is compared with

  pub field-met : (k j : ℕ) (x : Field) (s : Filled)
      → (put_field text k j x s).met ≡ meets text (field_text (slot_at k j) x) s.met
  unfolding meets
  field-met k j none s = refl
  field-met k j (some xs) s =
      let t = slot_at k j in
      sym (meets-append text (32 ∷ 40 ∷ t.name ++ items_text t.sort xs) (41 ∷ []) s.met)

  pub fields-met : (k j : ℕ) (ts : List Slot) (f : Form) → ts ≡ drop j (kind_at k).slots → FitsSlots ts f
      → (s : Marked) → (put_fields text k j f s).filled.met ≡ meets text (fields_text ts f) s.filled.met
  unfolding put_fields fields_text meets
  fields-met k = by_slots k
      (λ j ts f. (s : Marked) → (put_fields text k j f s).filled.met ≡ meets text (fields_text ts f) s.filled.met)
      (λ j s. refl)
      (λ j ts x f h more s.
      more _
      ∙ ap (meets text (fields_text ts f)) (field-met k j x s.filled)
      ∙ sym (meets-append text (field_text (slot_at k j) x) (fields_text ts f) s.filled.met))

  pub form-met : (k : ℕ) (f : Form) (r : Read) → FitsSlots (kind_at k).slots f
      → (put_form text k f r).filled.met ≡ meets text (form_text (kind_at k) f) r.filled.met
  unfolding put_form
  form-met k f r h =
      let title : List ℕ = 40 ∷ (kind_at k).title in
      let fields = fields_text (kind_at k).slots f in
      let m = r.filled.met in
      ap (meets text (41 ∷ 10 ∷ []))
      (fields-met k 0 (kind_at k).slots f refl h (opened text k r.filled)
      ∙ sym (meets-append text title fields m))
      ∙ sym (meets-append text (title ++ fields) (41 ∷ 10 ∷ []) m)

  pub forms-met : (k : ℕ) (fs : List Form) (r : Read) → FitsKind (kind_at k) fs
      → (put_forms text k fs r).filled.met ≡ meets text (forms_text (kind_at k) fs) r.filled.met
  unfolding put_forms forms_text meets
  forms-met k [] r h = refl
  forms-met k (f ∷ fs) r h =
      forms-met k fs (put_form text k f r) h.1
      ∙ ap (meets text (forms_text (kind_at k) fs)) (form-met k f r h.0)
      ∙ sym (meets-append text (form_text (kind_at k) f) (forms_text (kind_at k) fs) r.filled.met)

  pub document-met : (k : ℕ) (ks : List Kind) (d : Document) → ks ≡ drop k kinds → FitsKinds ks d → (w : Whole)
      → (put_document text k d w).read.filled.met ≡ meets text (document_text ks d) w.read.filled.met
  unfolding put_document document_text meets
  document-met = by-kinds
      (λ k ks d. (w : Whole)
      → (put_document text k d w).read.filled.met ≡ meets text (document_text ks d) w.read.filled.met)
      (λ k w. refl)
      (λ k ks fs d h l more w.
      more _
      ∙ ap (meets text (document_text ks d)) (forms-met k fs (afresh w.read) l)
      ∙ sym (meets-append text (forms_text (kind_at k) fs) (document_text ks d) w.read.filled.met))

  -- ---- how far the lists of records reach

  pub form-reach : (k : ℕ) (f : Form) (r : Read) → k < 9 → FitsSlots (kind_at k).slots f
      → (put_form text k f r).reach ≡ max r.reach (item_of f (list_slot k) 0 + item_of f (list_slot k) 1)
  unfolding put_form
  form-reach k f r h l =
      let small : (o : ℕ) → item_of f (list_slot k) o < 0x1_0000_0000 =
      λ o. item-small (kind_at k).slots f (list_slot k) o l in
      ap (max r.reach)
      (ap (reach_in k) (marks-laid text k f r.filled)
      ∙ ap (λ (m : Mark). m.first % 0x1_0000_0000 + m.second % 0x1_0000_0000)
      (mark-told k f r.filled.tables.counts (list_slot k) (form-few k f h l))
      ∙ (λ t. mod-eq_of_lt (small 0) t + mod-eq_of_lt (small 1) t))

  pub forms-reach : (k : ℕ) (fs : List Form) (r : Read) → k < 9 → FitsKind (kind_at k) fs
      → (put_forms text k fs r).reach ≡ max r.reach (reach_of k fs)
  unfolding put_forms reach_of
  forms-reach k [] r h l = omega arith
  forms-reach k (f ∷ fs) r h l =
      omega (arith, forms-reach k fs (put_form text k f r) h l.1, form-reach k f r h l.0)

  pub document-reaches : (k : ℕ) (ks : List Kind) (d : Document) → ks ≡ drop k kinds → FitsKinds ks d → (w : Whole)
      → (put_document text k d w).reaches ≡ w.reaches ++ reaches_from k d
  unfolding put_document reaches_from
  document-reaches = by-kinds
      (λ k ks d. (w : Whole) → (put_document text k d w).reaches ≡ w.reaches ++ reaches_from k d)
      (λ k w. sym (append-nil w.reaches))
      (λ k ks fs d h l more w.
      let reach = forms-reach k fs (afresh w.read) h l ∙ zero-max (reach_of k fs) in
      more _
      ∙ append_snoc w.reaches _ (reaches_from (suc k) d)
      ∙ ap (λ (n : ℕ). w.reaches ++ n ∷ reaches_from (suc k) d) reach)

  -- ---- what is asked for

  -- no kind but the first asks for anything
  pub forms-request : (k : ℕ) (fs : List Form) (r : Read) → (put_forms text (suc k) fs r).request ≡ r.request
  unfolding put_form put_forms
  forms-request k [] r = refl
  forms-request k (f ∷ fs) r = forms-request k fs (put_form text (suc k) f r) ∙ rw (eqb-suc-zero k)

  kinds-request : (k : ℕ) (d : Document) (w : Whole) → (put_document text (suc k) d w).read.request ≡ w.read.request
  unfolding put_document
  kinds-request k [] w = refl
  kinds-request k (fs ∷ d) w = kinds-request (suc k) d _ ∙ forms-request k fs (afresh w.read)

  pub document-request : (f : Form) (d : Document) (w : Whole) → FitsKinds kinds ((f ∷ []) ∷ d)
      → w.read.filled.tables.counts ≡ no_counts
      → (put_document text 0 ((f ∷ []) ∷ d) w).read.request ≡ request_of f
  unfolding kinds put_form put_forms put_document
  document-request f d w h z =
      let few = form-few 0 f (omega arith) h.0.0 in
      let roots = mark-told 0 f no_counts 2 few in
      kinds-request 0 d _
      ∙ ap (λ (marks : List Mark). request_in 0 marks w.read.request)
      (marks-laid text 0 f w.read.filled ∙ ap (marks_of 0 f) z)
      ∙ (λ t. record {
        node = (mark-told 0 f no_counts 0 few t).first;
        time = (mark-told 0 f no_counts 1 few t).first;
        roots_at =
            (ap (λ (m : Mark). m.start) roots
            ∙ ap (λ (c : Counts). (mark_in 0 2 (field_at f 2) c).start) (roots-first f no_counts)
            ∙ roots-start (field_at f 2)) t;
        roots = (roots t).count;
      })
