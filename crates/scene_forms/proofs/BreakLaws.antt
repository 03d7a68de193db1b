-- Of a document whose text is the one that it is compared with, the shape that is judged is told by the place of the
-- first closing bracket at which a shape breaks. Assumes nothing.
use mathlib.Core.Path.{◌≡◌, refl, sym, ap, ◌∙◌}
use mathlib.Core.Bool.{Bool, true, false, ◌&&◌, and-false}
use mathlib.Core.List.{List, [], ◌∷◌, ◌++◌, append_assoc}
use mathlib.Core.Option.{Option, none, some, or_else}
use Prim.Native.Nat.{ℕ, suc, ◌+◌, ◌<◌}
use native.Mathlib.Numerals.{add-one}
use native.Mathlib.Omega.{arith}
use borrow.Author.Tests.{eq-eqb, lt-ltb}
use lib.ListN.{length, get_or, drop}
use lib.Seq.{drop-drop, drop_at}
use Rattle.model.specs.Lists.{pick}
use Rattle.grammar.specs.Forms.{Slot, Kind, Field, Form, Document, FitsSlots, FitsKind, FitsKinds}
use Rattle.grammar.specs.Forms.{field_text, fields_text, form_text, forms_text, document_text}
use Rattle.grammar.specs.Shape.{field_holds, groups_hold}
use Rattle.grammar.specs.Breaks.{open_field, open_form, field_break, fields_break, groups_break, form_break, forms_break}
use Rattle.grammar.specs.Breaks.{document_break}
use Rattle.brackets.specs.declared.Met.{Met}
use Rattle.brackets.specs.Met.{met_at, meets, judge}
use Rattle.brackets.proofs.MeetingLaws.{meets-append}
use Rattle.scene_schema.specs.Schema.{kinds, kind_at, slot_at}
use Rattle.scene_marks.specs.Marks.{groups_of}
use Rattle.scene_forms.specs.Filled.{Filled, put_field, Marked, put_fields, opened, Read, put_form, put_forms}
use Rattle.scene_forms.specs.Filled.{afresh, Whole, put_document}
use Rattle.scene_forms.proofs.MarkLaws.{marks-laid}
use Rattle.scene_forms.proofs.TextLaws.{by-kinds, by_slots, rest_of, field-met, fields-met, form-met, forms-met}
use Rattle.scene_forms.proofs.ShapeLaws.{form-groups}

-- ---- the shape that is judged, by where it breaks

abbrev pub broken_at : Option ℕ → Met → Met
broken_at none m = m
broken_at (some at) m = judge false at m

judge-by : (b : Bool) (at : ℕ) (m : Met) → judge b at m ≡ broken_at (pick b none (some at)) m
judge-by true at m = ap (λ (t : Bool). pick t (met_at at false) m) (and-false m.ok)
judge-by false at m = refl

-- the first of two places counts
broken-both : (p q : Option ℕ) (m : Met) → broken_at q (broken_at p m) ≡ broken_at (or_else p q) m
unfolding or_else
broken-both none q m = refl
broken-both (some at) none m = refl
broken-both (some at) (some next) m = go m.ok
  where
    go : (b : Bool)
        → judge false next (pick (b && true) (met_at at false) (met_at m.at b))
        ≡ pick (b && true) (met_at at false) (met_at m.at b)
    go true = refl
    go false = refl

module _ (text : List ℕ) where
  -- ---- bytes that stand in the text from a place on

  meets-all : (bs r : List ℕ) (at : ℕ) → drop at text ≡ bs ++ r
      → meets text bs (met_at at true) ≡ met_at (at + length bs) true
  unfolding meets
  meets-all [] r at e = let z : at ≡ at + 0 = omega arith in ap (λ (n : ℕ). met_at n true) z
  meets-all (b ∷ bs) r at e =
      let c = rest_of text 0 at b (bs ++ r) (sym e) in
      let n : at + 1 + length bs ≡ at + suc (length bs) = omega arith in
      (λ i. meets text bs
      (pick (lt-ltb at (length text) c.inside i && eq-eqb (get_or text at 0) b (sym c.first) i)
      (met_at (at + 1) true) (met_at at false)))
      ∙ meets-all bs r (at + 1) (ap (λ (m : ℕ). drop m text) (add-one at) ∙ sym c.others)
      ∙ ap (λ (m : ℕ). met_at m true) n

  -- the text has been compared as far as them, and goes on behind them
  met-behind : (bs r : List ℕ) (at : ℕ) {m n : Met} → m ≡ met_at at true → drop at text ≡ bs ++ r
      → n ≡ meets text bs m → n ≡ met_at (at + length bs) true
  met-behind bs r at h e q = q ∙ ap (meets text bs) h ∙ meets-all bs r at e

  behind : (xs ys r : List ℕ) (at : ℕ) → drop at text ≡ (xs ++ ys) ++ r → drop (at + length xs) text ≡ ys ++ r
  behind xs ys r at e =
      sym (drop-drop (length xs) at text)
      ∙ ap (drop (length xs)) (e ∙ append_assoc xs ys r)
      ∙ drop_at xs (ys ++ r) (length xs) refl

  -- ---- where a shape breaks

  field-break : (k j : ℕ) (x : Field) (s : Filled) (at : ℕ) (r : List ℕ) → s.met ≡ met_at at true
      → drop at text ≡ field_text (slot_at k j) x ++ r
      → (put_field text k j x s).shape ≡ broken_at (field_break at (slot_at k j) x) s.shape
  field-break k j none s at r h e = refl
  field-break k j (some xs) s at r h e =
      let t = slot_at k j in
      let o = open_field t xs in
      let m = met-behind o (41 ∷ r) at h (e ∙ append_assoc o (41 ∷ []) r) refl in
      ap (λ (n : Met). judge (field_holds t (some xs)) n.at s.shape) m
      ∙ judge-by (field_holds t (some xs)) (at + length o) s.shape

  fields-break : (k j : ℕ) (ts : List Slot) (f : Form) → ts ≡ drop j (kind_at k).slots → FitsSlots ts f
      → (s : Marked) (at : ℕ) (r : List ℕ) → s.filled.met ≡ met_at at true → drop at text ≡ fields_text ts f ++ r
      → (put_fields text k j f s).filled.shape ≡ broken_at (fields_break at ts f) s.filled.shape
  unfolding put_fields fields_text fields_break
  fields-break k = by_slots k
      (λ j ts f. (s : Marked) (at : ℕ) (r : List ℕ) → s.filled.met ≡ met_at at true
      → drop at text ≡ fields_text ts f ++ r
      → (put_fields text k j f s).filled.shape ≡ broken_at (fields_break at ts f) s.filled.shape)
      (λ j s at r h e. refl)
      (λ j ts x f l more s at r h e.
      let t = slot_at k j in
      let first = field_text t x in
      let others = fields_text ts f in
      let whole = e ∙ append_assoc first others r in
      more _ (at + length first) r (met-behind first (others ++ r) at h whole (field-met text k j x s.filled))
      (behind first others r at e)
      ∙ ap (broken_at (fields_break (at + length first) ts f)) (field-break k j x s.filled at (others ++ r) h whole)
      ∙ broken-both (field_break at t x) (fields_break (at + length first) ts f) s.filled.shape)

  form-break : (k : ℕ) (f : Form) (s : Read) (at : ℕ) (r : List ℕ) → k < 9 → FitsSlots (kind_at k).slots f
      → s.filled.met ≡ met_at at true → drop at text ≡ form_text (kind_at k) f ++ r
      → (put_form text k f s).filled.shape ≡ broken_at (form_break at (kind_at k) f) s.filled.shape
  unfolding put_form
  form-break k f s at r g l h e =
      let slots = (kind_at k).slots in
      let title : List ℕ = 40 ∷ (kind_at k).title in
      let fields = fields_text slots f in
      let o = open_form (kind_at k) f in
      let close : List ℕ = 41 ∷ 10 ∷ r in
      let whole : drop at text ≡ (title ++ fields) ++ close = e ∙ append_assoc o (41 ∷ 10 ∷ []) r in
      let start = opened text k s.filled in
      let named = met-behind title (fields ++ close) at h (whole ∙ append_assoc title fields close) refl in
      let broken = fields-break k 0 slots f refl l start (at + length title) close named
      (behind title fields close at whole) in
      let met = met-behind o close at h whole
      (fields-met text k 0 slots f refl l start ∙ sym (meets-append text title fields s.filled.met)) in
      let groups = ap (groups_of k) (marks-laid text k f s.filled)
      ∙ form-groups k f s.filled.tables.counts g l in
      (λ i. judge (groups i) (met i).at (broken i))
      ∙ judge-by (groups_hold slots f) (at + length o) _
      ∙ broken-both (fields_break (at + length title) slots f) (groups_break at (kind_at k) f) s.filled.shape

  forms-break : (k : ℕ) (fs : List Form) (s : Read) (at : ℕ) (r : List ℕ) → k < 9 → FitsKind (kind_at k) fs
      → s.filled.met ≡ met_at at true → drop at text ≡ forms_text (kind_at k) fs ++ r
      → (put_forms text k fs s).filled.shape ≡ broken_at (forms_break at (kind_at k) fs) s.filled.shape
  unfolding put_forms forms_text forms_break
  forms-break k [] s at r g l h e = refl
  forms-break k (f ∷ fs) s at r g l h e =
      let first = form_text (kind_at k) f in
      let others = forms_text (kind_at k) fs in
      let whole = e ∙ append_assoc first others r in
      forms-break k fs (put_form text k f s) (at + length first) r g l.1
      (met-behind first (others ++ r) at h whole (form-met text k f s l.0)) (behind first others r at e)
      ∙ ap (broken_at (forms_break (at + length first) (kind_at k) fs))
      (form-break k f s at (others ++ r) g l.0 h whole)
      ∙ broken-both (form_break at (kind_at k) f) (forms_break (at + length first) (kind_at k) fs) s.filled.shape

  pub document-break : (k : ℕ) (ks : List Kind) (d : Document) → ks ≡ drop k kinds → FitsKinds ks d → (w : Whole)
      (at : ℕ) (r : List ℕ) → w.read.filled.met ≡ met_at at true → drop at text ≡ document_text ks d ++ r
      → (put_document text k d w).read.filled.shape ≡ broken_at (document_break at ks d) w.read.filled.shape
  unfolding put_document document_text document_break
  document-break = by-kinds
      (λ k ks d. (w : Whole) (at : ℕ) (r : List ℕ) → w.read.filled.met ≡ met_at at true
      → drop at text ≡ document_text ks d ++ r
      → (put_document text k d w).read.filled.shape ≡ broken_at (document_break at ks d) w.read.filled.shape)
      (λ k w at r h e. refl)
      (λ k ks fs d g l more w at r h e.
      let s = afresh w.read in
      let first = forms_text (kind_at k) fs in
      let others = document_text ks d in
      let whole = e ∙ append_assoc first others r in
      more _ (at + length first) r (met-behind first (others ++ r) at h whole (forms-met text k fs s l))
      (behind first others r at e)
      ∙ ap (broken_at (document_break (at + length first) ks d)) (forms-break k fs s at (others ++ r) g l h whole)
      ∙ broken-both (forms_break at (kind_at k) fs) (document_break (at + length first) ks d) s.filled.shape)
