-- Where a text breaks, from what one pass over it tells. Assumes nothing.
use mathlib.Core.Path.{◌≡◌, refl, sym, ap, ◌∙◌}
use mathlib.Core.Bool.{Bool, true, false}
use mathlib.Core.List.{List, [], append-nil}
use mathlib.Core.Option.{Option, none, some, get_or}
use Prim.Native.Nat.{ℕ}
use lib.Dec.{T}
use lib.ListN.{length}
use Rattle.model.specs.Lists.{pick, is_some}
use Rattle.model.specs.Refusals.{number, bad_form}
use Rattle.grammar.specs.Forms.{Document, document_text}
use Rattle.grammar.specs.Common.{common}
use Rattle.grammar.specs.Parsed.{parsed, same, is_text, reading_of}
use Rattle.grammar.specs.Breaks.{document_break, break_of}
use Rattle.grammar.proofs.Back.{same-eq}
use Rattle.grammar.proofs.Found.{made-fits}
use Rattle.brackets.specs.declared.Met.{Met}
use Rattle.brackets.specs.Met.{met_at}
use Rattle.scene_schema.specs.Schema.{kinds}
use Rattle.scene_forms.specs.declared.Found.{Found}
use Rattle.scene_forms.specs.Filled.{Whole}
use Rattle.scene_forms.specs.Read.{whole_at, start_at}
use Rattle.scene_forms.proofs.BreakLaws.{broken_at, document-break}
use Rattle.scene_text.specs.Scanned.{Scanned, is_reading}
use Rattle.scene_text.specs.Breaks.{break_as, break_for, place_from}
use Rattle.scene_text.proofs.ScanLaws.{told-common, told_same, reading-told}

-- the place of what is broken, or the end
place_of : (p : Option ℕ) (len : ℕ)
    → pick (broken_at p (met_at 0 true)).ok len (broken_at p (met_at 0 true)).at ≡ get_or p len
place_of none len = refl
place_of (some at) len = refl

module _ {text : List ℕ} {f : Found} (s : Scanned text f) where
  abbrev d : Document
  d = parsed kinds text

  abbrev made : List ℕ
  made = document_text kinds d

  told-break : made ≡ text → f.place.shape ≡ broken_at (document_break 0 kinds d) (met_at 0 true)
  told-break e =
      ap (λ (w : Whole). w.read.filled.shape) s.read.read
      ∙ document-break text 0 kinds d refl (made-fits (length text) kinds text)
      (whole_at s.slices.from [] (start_at 0 (met_at 0 true))) 0 [] refl (sym (append-nil made ∙ e))

  place-told : place_from (length text) f ≡ break_of kinds text
  place-told =
      (λ i. pick (told_same s i) (pick f.place.shape.ok (length text) f.place.shape.at) (told-common s i).at)
      ∙ go (same made text) (λ t. told-break (same-eq made text t))
    where
      go : (b : Bool) → (T b → f.place.shape ≡ broken_at (document_break 0 kinds d) (met_at 0 true))
          → pick b (pick f.place.shape.ok (length text) f.place.shape.at) (common made text)
          ≡ pick b (get_or (document_break 0 kinds d) (length text)) (common made text)
      go true h =
          ap (λ (m : Met). pick m.ok (length text) m.at) (h tt)
          ∙ place_of (document_break 0 kinds d) (length text)
      go false h = refl

  -- what is answered, by whether the text has a reading
  pub break-told : (b : Bool) → is_reading (length text) f ≡ b
      → pick b (break_as 0 0) (break_as (number bad_form) (place_from (length text) f)) ≡ break_for text
  unfolding reading_of
  break-told b e =
      (λ i. pick ((sym e ∙ reading-told s) i) (break_as 0 0) (break_as (number bad_form) (place-told i)))
      ∙ go (is_text kinds text d)
    where
      go : (t : Bool) → pick t (break_as 0 0) (break_as (number bad_form) (break_of kinds text))
          ≡ pick (is_some (pick t (some d) none)) (break_as 0 0) (break_as (number bad_form) (break_of kinds text))
      go true = refl
      go false = refl
