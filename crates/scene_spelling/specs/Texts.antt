-- The text of a field, by the number of its slot. Definitions only.
use Rattle.std.specs.Prelude.{List, [], ◌∷◌, ◌++◌, ℕ, Float, get_or}
use Rattle.std.proofs.Math.Option.{none, some}
use Rattle.tracks.specs.declared.Part.{Part}
use Rattle.grammar.specs.Digits.{Sort, numbers, floats, items_text}
use Rattle.grammar.specs.Forms.{Field}
use Rattle.scene_schema.specs.Numbers.{slot_names, no_name}
use Rattle.scene_spelling.specs.Written.{tag_field, parts_field, matrix_field, values_field}

-- slot j of kind k is 16 k + j
abbrev pub slot_text : ℕ → Sort → Field → List ℕ
slot_text g s none = []
slot_text g s (some xs) = 32 ∷ 40 ∷ (get_or slot_names g no_name).letters ++ items_text s xs ++ 41 ∷ []

-- of the base transform of a node, of what a channel drives, of its interpolation, of its values
abbrev pub base_text : List Float → ℕ → ℕ → List ℕ
base_text values form base =
    slot_text 16 floats (parts_field values form base) ++ slot_text 17 floats (matrix_field values form base)

abbrev pub property_text : ℕ → List ℕ
property_text tag =
    slot_text 33 numbers (tag_field tag 0) ++ slot_text 34 numbers (tag_field tag 1)
    ++ slot_text 35 numbers (tag_field tag 2) ++ slot_text 36 numbers (tag_field tag 3)

abbrev pub interpolation_text : ℕ → List ℕ
interpolation_text tag =
    slot_text 37 numbers (tag_field tag 0) ++ slot_text 38 numbers (tag_field tag 1)
    ++ slot_text 39 numbers (tag_field tag 2)

abbrev pub values_text : List Float → ℕ → Part → List ℕ
values_text values kind p =
    slot_text 41 floats (values_field values kind p 0 3) ++ slot_text 42 floats (values_field values kind p 1 4)
    ++ slot_text 43 floats (values_field values kind p 2 1)
