-- Where a text breaks, for any schema: at the first byte that departs from the text of what is made of it; where none
-- does, at the closing bracket of the first field or form whose shape breaks, or at the end of the text. A field is
-- judged at its closing bracket, the groups of a form at the form's. Definitions only.
use Rattle.std.specs.Prelude.{List, [], ◌∷◌, ◌++◌, ℕ, ◌+◌, length}
use Rattle.std.proofs.Math.Option.{Option, none, some, get_or, or_else}
use Rattle.model.specs.Lists.{pick}
use Rattle.grammar.specs.Digits.{items_text}
use Rattle.grammar.specs.Forms.{Slot, Kind, Field, Form, Document}
use Rattle.grammar.specs.Forms.{field_text, fields_text, form_text, forms_text, document_text}
use Rattle.grammar.specs.Shape.{field_holds, groups_hold}
use Rattle.grammar.specs.Parsed.{parsed, same}
use Rattle.grammar.specs.Common.{common}

-- ---- the first closing bracket at which a shape breaks, in the text of fields and forms that begins at a place

-- a field and a form up to their closing brackets
abbrev pub open_field : Slot → List ℕ → List ℕ
open_field t xs = 32 ∷ 40 ∷ t.name ++ items_text t.sort xs

abbrev pub open_form : Kind → Form → List ℕ
open_form k f = 40 ∷ k.title ++ fields_text k.slots f

abbrev pub field_break : ℕ → Slot → Field → Option ℕ
field_break at t none = none
field_break at t (some xs) = pick (field_holds t (some xs)) none (some (at + length (open_field t xs)))

unfoldable pub fields_break : ℕ → List Slot → Form → Option ℕ
fields_break at (t ∷ ts) (f ∷ fs) =
    or_else (field_break at t f) (fields_break (at + length (field_text t f)) ts fs)
fields_break at (t ∷ ts) [] = none
fields_break at [] fs = none

abbrev pub groups_break : ℕ → Kind → Form → Option ℕ
groups_break at k f = pick (groups_hold k.slots f) none (some (at + length (open_form k f)))

abbrev pub form_break : ℕ → Kind → Form → Option ℕ
form_break at k f = or_else (fields_break (at + length (40 ∷ k.title)) k.slots f) (groups_break at k f)

unfoldable pub forms_break : ℕ → Kind → List Form → Option ℕ
forms_break at k [] = none
forms_break at k (f ∷ fs) = or_else (form_break at k f) (forms_break (at + length (form_text k f)) k fs)

unfoldable pub document_break : ℕ → List Kind → Document → Option ℕ
document_break at (k ∷ ks) (fs ∷ d) =
    or_else (forms_break at k fs) (document_break (at + length (forms_text k fs)) ks d)
document_break at (k ∷ ks) [] = none
document_break at [] d = none

-- ---- the place of a text that has no reading

abbrev pub break_of : List Kind → List ℕ → ℕ
break_of ks text =
    let d = parsed ks text in
    pick (same (document_text ks d) text) (get_or (document_break 0 ks d) (length text))
    (common (document_text ks d) text)
