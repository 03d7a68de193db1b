-- What the schema asks of a document besides its text: how many items a field has, which fields are there, and that a
-- float's item is the bits of a float. The readings of a text are the documents of that shape whose text it is.
-- Definitions only.
use Rattle.std.specs.Prelude.{◌≡◌, Bool, true, ◌&&◌, ◌||◌, not, List, [], ◌∷◌, ℕ, zero, suc, ◌%◌, T, leb, eqb, length, drop}
use Rattle.std.proofs.Math.Option.{none, some}
use Rattle.model.specs.Lists.{every}
use Rattle.grammar.specs.Digits.{Sort, numbers, floats}
use Rattle.grammar.specs.Forms.{Size, exactly, entries_of, Slot, Kind, Field, Form, Document, document_text}
use Rattle.grammar.specs.Forms.{FitsKinds}

-- the bits of a float: of all NaN patterns only 7fc00000 is one
abbrev pub is_float : ℕ → Bool
is_float w = leb (w % 0x8000_0000) 0x7f80_0000 || eqb w 0x7fc0_0000

abbrev pub sorted : Sort → List ℕ → Bool
sorted numbers xs = true
sorted floats xs = every is_float xs

abbrev pub sized : Size → ℕ → Bool
sized (exactly n) count = eqb count n
sized (entries_of n) count = eqb (count % n) 0

abbrev pub field_holds : Slot → Field → Bool
field_holds t none = true
field_holds t (some xs) = sorted t.sort xs && sized t.size (length xs)

unfoldable pub fields_hold : List Slot → Form → Bool
fields_hold (t ∷ ts) (f ∷ fs) = field_holds t f && fields_hold ts fs
fields_hold (t ∷ ts) [] = true
fields_hold [] fs = true

-- how many of the first n fields are there
unfoldable pub present_in : ℕ → Form → ℕ
present_in zero fs = 0
present_in (suc n) [] = 0
present_in (suc n) (none ∷ fs) = present_in n fs
present_in (suc n) (some xs ∷ fs) = suc (present_in n fs)

-- of each group of slots just one is there
unfoldable pub groups_hold : List Slot → Form → Bool
groups_hold [] fs = true
groups_hold (t ∷ ts) fs = (eqb t.one_of 0 || eqb (present_in t.one_of fs) 1) && groups_hold ts (drop 1 fs)

abbrev pub form_holds : Kind → Form → Bool
form_holds k f = fields_hold k.slots f && groups_hold k.slots f

abbrev pub kind_holds : Kind → List Form → Bool
kind_holds k fs = every (form_holds k) fs && (not k.single || eqb (length fs) 1)

unfoldable pub holds : List Kind → Document → Bool
holds (k ∷ ks) (fs ∷ d) = kind_holds k fs && holds ks d
holds (k ∷ ks) [] = true
holds [] d = true

-- d is a reading of the text
pub record Reads (ks : List Kind) (text : List ℕ) (d : Document) : Type 0 where
  pub fits : FitsKinds ks d
  pub shaped : T (holds ks d)
  pub spelled : document_text ks d ≡ text
