-- A document of nested brackets and its text, for any schema (request 2026-01, docs/TEXT.md). A form stands on a line
-- of its own: a bracket, the form's title, its fields, a bracket, the end of the line. A field is a space, a bracket,
-- its name, its items, each behind a space, and a bracket. The forms of a kind follow each other, the kinds stand in
-- the order of the schema, and so do the fields of a form; a field may be absent. Definitions only.
use Rattle.std.specs.Prelude.{Bool, List, [], ◌∷◌, ◌++◌, ℕ, ◌<◌}
use Rattle.std.proofs.Math.Option.{Option, none, some}
use Rattle.grammar.specs.Digits.{Sort, items_text}

-- ---- a schema

-- how many items a field has: just so many, or any number of entries of so many each
pub data Size : Type 0 where
  exactly : ℕ → Size
  entries_of : ℕ → Size

-- what a field may be; of so many slots from this one on just one is there, or nothing is asked where that is 0
pub record Slot : Type 0 where
  pub name : List ℕ
  pub sort : Sort
  pub size : Size
  pub one_of : ℕ

-- what a form may be, and whether there is just one
pub record Kind : Type 0 where
  pub title : List ℕ
  pub slots : List Slot
  pub single : Bool

-- ---- a document

-- a field's items, where it is there; a form's fields, one for each slot; the forms of a kind; the kinds
abbrev pub Field : Type 0
Field = Option (List ℕ)

abbrev pub Form : Type 0
Form = List Field

abbrev pub Document : Type 0
Document = List (List Form)

-- ---- its text

abbrev pub field_text : Slot → Field → List ℕ
field_text t none = []
field_text t (some xs) = 32 ∷ 40 ∷ t.name ++ items_text t.sort xs ++ 41 ∷ []

unfoldable pub fields_text : List Slot → Form → List ℕ
fields_text (t ∷ ts) (f ∷ fs) = field_text t f ++ fields_text ts fs
fields_text (t ∷ ts) [] = []
fields_text [] fs = []

abbrev pub form_text : Kind → Form → List ℕ
form_text k f = 40 ∷ k.title ++ fields_text k.slots f ++ 41 ∷ 10 ∷ []

unfoldable pub forms_text : Kind → List Form → List ℕ
forms_text k [] = []
forms_text k (f ∷ fs) = form_text k f ++ forms_text k fs

unfoldable pub document_text : List Kind → Document → List ℕ
document_text (k ∷ ks) (fs ∷ d) = forms_text k fs ++ document_text ks d
document_text (k ∷ ks) [] = []
document_text [] d = []

-- ---- documents of a schema: a list of forms for each kind, a field for each slot, items of 32 bits

abbrev pub Small : List ℕ → Type 0
Small [] = Unit {0}
Small (x ∷ xs) = (x < 0x1_0000_0000) × Small xs

abbrev pub SmallField : Field → Type 0
SmallField none = Unit {0}
SmallField (some xs) = Small xs

abbrev pub FitsSlots : List Slot → Form → Type 0
FitsSlots [] [] = Unit {0}
FitsSlots [] (f ∷ fs) = ⊥
FitsSlots (t ∷ ts) [] = ⊥
FitsSlots (t ∷ ts) (f ∷ fs) = SmallField f × FitsSlots ts fs

abbrev pub FitsKind : Kind → List Form → Type 0
FitsKind k [] = Unit {0}
FitsKind k (f ∷ fs) = FitsSlots k.slots f × FitsKind k fs

abbrev pub FitsKinds : List Kind → Document → Type 0
FitsKinds [] [] = Unit {0}
FitsKinds [] (fs ∷ d) = ⊥
FitsKinds (k ∷ ks) [] = ⊥
FitsKinds (k ∷ ks) (fs ∷ d) = FitsKind k fs × FitsKinds ks d
