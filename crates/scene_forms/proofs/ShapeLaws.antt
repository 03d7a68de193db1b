-- The shape of a document that is put is judged to hold exactly where every form has its shape, which is all that the
-- schema asks but for the kinds of just one form. Assumes nothing.
use mathlib.Core.Path.{◌≡◌, refl, sym, ap, ◌∙◌}
use mathlib.Core.Bool.{Bool, true, false, ◌&&◌, ◌||◌, not, and-true, and_assoc}
use mathlib.Core.List.{List, [], ◌∷◌}
use mathlib.Core.Option.{none, some}
use Prim.Native.Nat.{ℕ, zero, suc, ◌+◌, ◌<◌}
use native.Mathlib.Nat.{add-zero}
use native.Mathlib.Numerals.{add-one}
use native.Mathlib.Omega.{arith}
use lib.Dec.{eqb}
use lib.ListN.{length, drop}
use lib.Seq.{get_or-drop, drop-drop}
use Rattle.model.specs.Lists.{pick, every}
use Rattle.grammar.specs.Forms.{Slot, Kind, Field, Form, Document, FitsSlots, FitsKind, FitsKinds}
use Rattle.grammar.specs.Shape.{field_holds, fields_hold, present_in, groups_hold, form_holds}
use Rattle.grammar.proofs.BreakLaws.{all_hold}
use Rattle.brackets.specs.declared.Met.{Met}
use Rattle.brackets.specs.Met.{met_at, judge}
use Rattle.scene_schema.specs.Schema.{kinds, kind_at, slot_at}
use Rattle.scene_schema.proofs.Numbers.{kind-is}
use Rattle.scene_marks.specs.declared.Mark.{Mark}
use Rattle.scene_marks.specs.Marks.{mark_at, present_from, groups_from, groups_of}
use Rattle.scene_forms.specs.declared.Counts.{Counts}
use Rattle.scene_forms.specs.Filled.{Filled, put_field, Marked, put_fields, opened, Read, put_form, put_forms}
use Rattle.scene_forms.specs.Filled.{afresh, Whole, put_document}
use Rattle.scene_forms.specs.Laid.{field_at, marks_of}
use Rattle.scene_forms.proofs.MarkLaws.{there_in, mark-told, marks-laid}
use Rattle.scene_forms.proofs.TextLaws.{by-kinds, by_slots, form-few}

-- ---- the groups of a form, told by its marks

present-none : (n : ℕ) → present_in n [] ≡ 0
unfolding present_in
present-none zero = refl
present-none (suc n) = refl

present-step : (n : ℕ) (f : Form)
    → pick (eqb (there_in (field_at f 0)) 0) 0 1 + present_in n (drop 1 f) ≡ present_in (suc n) f
unfolding present_in
present-step n [] = omega (arith, present-none n)
present-step n (none ∷ f) = omega arith
present-step n (some xs ∷ f) = omega arith

module _ (marks : List Mark) (f : Form) (told : (j : ℕ) → (mark_at marks j).there ≡ there_in (field_at f j)) where
  present-told : (n j : ℕ) → present_from n j marks ≡ present_in n (drop j f)
  unfolding present_from present_in
  present-told zero j = refl
  present-told (suc n) j =
      let here : field_at f j ≡ field_at (drop j f) 0 = ap (field_at f) (sym (add-zero j)) ∙ sym (get_or-drop j f 0 none) in
      (λ t. pick (eqb ((told j ∙ ap there_in here) t) 0) 0 1
      + (present-told n (j + 1) ∙ ap (present_in n) (sym (drop-drop 1 j f))) t)
      ∙ present-step n (drop j f)

  groups-told : (k : ℕ) → k < 9 → (j : ℕ) (ts : List Slot) (g : Form) → ts ≡ drop j (kind_at k).slots
      → FitsSlots ts g → g ≡ drop j f → groups_from (length ts) k j marks ≡ groups_hold ts g
  unfolding groups_from groups_hold
  groups-told k h = by_slots k (λ j ts g. g ≡ drop j f → groups_from (length ts) k j marks ≡ groups_hold ts g)
      (λ j e. refl)
      (λ j ts x g l more e.
      let group = ((kind-is k h).slots j l).group in
      let n = (slot_at k j).one_of in
      let rest : g ≡ drop (suc j) f = ap (drop 1) e ∙ drop-drop 1 j f ∙ ap (λ (i : ℕ). drop i f) (add-one j) in
      λ t.
      (eqb (group t) 0
      || eqb ((ap (λ (n : ℕ). present_from n j marks) group ∙ present-told n j ∙ ap (present_in n) (sym e)) t) 1)
      && (ap (λ (i : ℕ). groups_from (length ts) k i marks) (add-one j) ∙ more rest) t)

pub form-groups : (k : ℕ) (f : Form) (c : Counts) → k < 9 → FitsSlots (kind_at k).slots f
    → groups_of k (marks_of k f c) ≡ groups_hold (kind_at k).slots f
form-groups k f c h l =
    let marks = marks_of k f c in
    ap (λ (n : ℕ). groups_from n k 0 marks) (kind-is k h).count
    ∙ groups-told marks f (λ j. ap (λ (m : Mark). m.there) (mark-told k f c j (form-few k f h l)))
    k h 0 (kind_at k).slots f refl l refl

-- ---- the shape that is judged

judged : (b : Bool) (at : ℕ) (m : Met) → (judge b at m).ok ≡ (m.ok && b)
judged b at m = go m.ok b
  where
    go : (a b : Bool) → (pick (a && not b) (met_at at false) (met_at m.at a)).ok ≡ (a && b)
    go true true = refl
    go true false = refl
    go false b = refl

module _ (text : List ℕ) where
  field-shape : (k j : ℕ) (x : Field) (s : Filled)
      → (put_field text k j x s).shape.ok ≡ (s.shape.ok && field_holds (slot_at k j) x)
  field-shape k j none s = sym (and-true s.shape.ok)
  field-shape k j (some xs) s = judged (field_holds (slot_at k j) (some xs)) _ s.shape

  pub fields-shape : (k j : ℕ) (ts : List Slot) (f : Form) → ts ≡ drop j (kind_at k).slots → FitsSlots ts f
      → (s : Marked) → (put_fields text k j f s).filled.shape.ok ≡ (s.filled.shape.ok && fields_hold ts f)
  unfolding put_fields fields_hold
  fields-shape k = by_slots k
      (λ j ts f. (s : Marked)
      → (put_fields text k j f s).filled.shape.ok ≡ (s.filled.shape.ok && fields_hold ts f))
      (λ j s. sym (and-true s.filled.shape.ok))
      (λ j ts x f h more s.
      more _
      ∙ ap (λ (b : Bool). b && fields_hold ts f) (field-shape k j x s.filled)
      ∙ and_assoc s.filled.shape.ok (field_holds (slot_at k j) x) (fields_hold ts f))

  pub form-shape : (k : ℕ) (f : Form) (r : Read) → k < 9 → FitsSlots (kind_at k).slots f
      → (put_form text k f r).filled.shape.ok ≡ (r.filled.shape.ok && form_holds (kind_at k) f)
  unfolding put_form
  form-shape k f r h l =
      let slots = (kind_at k).slots in
      let c = r.filled.tables.counts in
      let m = put_fields text k 0 f (opened text k r.filled) in
      judged (groups_of k m.marks) m.filled.met.at m.filled.shape
      ∙ (λ t. fields-shape k 0 slots f refl l (opened text k r.filled) t
      && (ap (groups_of k) (marks-laid text k f r.filled) ∙ form-groups k f c h l) t)
      ∙ and_assoc r.filled.shape.ok (fields_hold slots f) (groups_hold slots f)

  pub forms-shape : (k : ℕ) (fs : List Form) (r : Read) → k < 9 → FitsKind (kind_at k) fs
      → (put_forms text k fs r).filled.shape.ok ≡ (r.filled.shape.ok && every (form_holds (kind_at k)) fs)
  unfolding put_forms every
  forms-shape k [] r h l = sym (and-true r.filled.shape.ok)
  forms-shape k (f ∷ fs) r h l =
      let rest = every (form_holds (kind_at k)) fs in
      forms-shape k fs (put_form text k f r) h l.1
      ∙ ap (λ (b : Bool). b && rest) (form-shape k f r h l.0)
      ∙ and_assoc r.filled.shape.ok (form_holds (kind_at k) f) rest

  pub document-shape : (k : ℕ) (ks : List Kind) (d : Document) → ks ≡ drop k kinds → FitsKinds ks d → (w : Whole)
      → (put_document text k d w).read.filled.shape.ok ≡ (w.read.filled.shape.ok && all_hold ks d)
  unfolding put_document all_hold
  document-shape = by-kinds
      (λ k ks d. (w : Whole)
      → (put_document text k d w).read.filled.shape.ok ≡ (w.read.filled.shape.ok && all_hold ks d))
      (λ k w. sym (and-true w.read.filled.shape.ok))
      (λ k ks fs d h l more w.
      more _
      ∙ ap (λ (b : Bool). b && all_hold ks d) (forms-shape k fs (afresh w.read) h l)
      ∙ and_assoc w.read.filled.shape.ok (every (form_holds (kind_at k)) fs) (all_hold ks d))
