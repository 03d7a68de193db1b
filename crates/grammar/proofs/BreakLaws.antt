-- The place at which a text breaks: where the text departs, all before the place is the same and the bytes at it
-- differ; no shape breaks just where every form has its shape. Assumes nothing.
use mathlib.Core.Path.{◌≡◌, refl, sym, ap, subst, ◌∙◌}
use mathlib.Core.Bool.{Bool, true, false, ◌&&◌, ◌||◌, not, and-false}
use mathlib.Core.List.{List, [], ◌∷◌}
use mathlib.Core.Option
use mathlib.Core.Option.{Option, none, some, or_else}
use Prim.Native.Nat.{ℕ, ◌+◌, ◌<◌}
use lib.Dec.{eqb}
use lib.ListN.{length, get_or, take}
use Rattle.model.specs.Lists.{pick, every, is_some}
use Rattle.grammar.specs.Forms.{Slot, Kind, Field, Form, Document}
use Rattle.grammar.specs.Forms.{field_text, form_text, forms_text, document_text}
use Rattle.grammar.specs.Shape.{field_holds, fields_hold, groups_hold, form_holds, kind_holds, holds}
use Rattle.grammar.specs.Common.{common}
use Rattle.grammar.specs.Parsed.{parsed, same}
use Rattle.grammar.specs.Breaks.{open_field, open_form, field_break, fields_break, groups_break, form_break}
use Rattle.grammar.specs.Breaks.{forms_break, document_break, break_of}
use Rattle.grammar.proofs.Prefix.{common-same, common-departs}

-- ---- what holds of a document

-- every form has its shape
unfoldable pub all_hold : List Kind → Document → Bool
all_hold (k ∷ ks) (fs ∷ d) = every (form_holds k) fs && all_hold ks d
all_hold (k ∷ ks) [] = true
all_hold [] d = true

-- a kind of just one form has one
unfoldable pub singles : List Kind → Document → Bool
singles (k ∷ ks) (fs ∷ d) = (not k.single || eqb (length fs) 1) && singles ks d
singles (k ∷ ks) [] = true
singles [] d = true

and-swap : (a b c e : Bool) → (a && b && (c && e)) ≡ (a && c && (b && e))
and-swap true true c e = refl
and-swap true false c e = sym (and-false c)
and-swap false b c e = refl

pub holds-split : (ks : List Kind) (d : Document) → holds ks d ≡ (all_hold ks d && singles ks d)
unfolding holds all_hold singles
holds-split (k ∷ ks) (fs ∷ d) =
    ap (λ (b : Bool). kind_holds k fs && b) (holds-split ks d)
    ∙ and-swap (every (form_holds k) fs) _ (all_hold ks d) (singles ks d)
holds-split (k ∷ ks) [] = refl
holds-split [] d = refl

-- ---- no shape breaks

abbrev whole : Option ℕ → Bool
whole p = not (is_some p)

whole-both : (p q : Option ℕ) → whole (or_else p q) ≡ (whole p && whole q)
unfolding or_else
whole-both none q = refl
whole-both (some at) q = refl

whole_by : (b : Bool) (at : ℕ) → whole (pick b none (some at)) ≡ b
whole_by true at = refl
whole_by false at = refl

field-whole : (at : ℕ) (t : Slot) (f : Field) → whole (field_break at t f) ≡ field_holds t f
field-whole at t none = refl
field-whole at t (some xs) = whole_by (field_holds t (some xs)) (at + length (open_field t xs))

fields-whole : (at : ℕ) (ts : List Slot) (f : Form) → whole (fields_break at ts f) ≡ fields_hold ts f
unfolding fields_break fields_hold
fields-whole at (t ∷ ts) (f ∷ fs) =
    let next = at + length (field_text t f) in
    whole-both (field_break at t f) (fields_break next ts fs)
    ∙ (λ i. field-whole at t f i && fields-whole next ts fs i)
fields-whole at (t ∷ ts) [] = refl
fields-whole at [] fs = refl

form-whole : (at : ℕ) (k : Kind) (f : Form) → whole (form_break at k f) ≡ form_holds k f
form-whole at k f =
    let first = at + length (40 ∷ k.title) in
    whole-both (fields_break first k.slots f) (groups_break at k f)
    ∙ (λ i. fields-whole first k.slots f i
    && whole_by (groups_hold k.slots f) (at + length (open_form k f)) i)

forms-whole : (at : ℕ) (k : Kind) (fs : List Form) → whole (forms_break at k fs) ≡ every (form_holds k) fs
unfolding forms_break every
forms-whole at k [] = refl
forms-whole at k (f ∷ fs) =
    let next = at + length (form_text k f) in
    whole-both (form_break at k f) (forms_break next k fs) ∙ (λ i. form-whole at k f i && forms-whole next k fs i)

-- just where every form has its shape
pub document-whole : (at : ℕ) (ks : List Kind) (d : Document)
    → not (is_some (document_break at ks d)) ≡ all_hold ks d
unfolding document_break all_hold
document-whole at (k ∷ ks) (fs ∷ d) =
    let next = at + length (forms_text k fs) in
    whole-both (forms_break at k fs) (document_break next ks d)
    ∙ (λ i. forms-whole at k fs i && document-whole next ks d i)
document-whole at (k ∷ ks) [] = refl
document-whole at [] d = refl

-- ---- a text that departs from that of what is made of it

module _ (ks : List Kind) (text : List ℕ) (e : same (document_text ks (parsed ks text)) text ≡ false) where
  abbrev made : List ℕ
  made = document_text ks (parsed ks text)

  at-departure : break_of ks text ≡ common made text
  at-departure =
      ap (λ (b : Bool). pick b (Option.get_or (document_break 0 ks (parsed ks text)) (length text)) (common made text)) e

  -- all before the place is the same
  pub same-before : take (break_of ks text) made ≡ take (break_of ks text) text
  same-before = subst (λ (n : ℕ). take n made ≡ take n text) (sym at-departure) (common-same made text)

  -- the bytes at it differ, where both texts have one
  pub differ-at : break_of ks text < length made → break_of ks text < length text
      → get_or made (break_of ks text) 0 ≡ get_or text (break_of ks text) 0 → ⊥
  differ-at = subst (λ (n : ℕ). n < length made → n < length text → get_or made n 0 ≡ get_or text n 0 → ⊥)
      (sym at-departure) (common-departs made text)
