-- The forms of a scene's text (docs/TEXT.md): kinds in their order, and the fields of each with how many items they
-- have. A field that is needed is one of a group of one. Definitions only.
use Rattle.std.specs.Prelude.{true, false, List, [], ◌∷◌, ℕ, get_or}
use Prim.Native.Char.{code}
use Prim.Native.String.{String, [] as ε, ◌∷◌ as ◌⊳◌}
use Rattle.grammar.specs.Digits.{numbers, floats}
use Rattle.grammar.specs.Forms.{Size, exactly, entries_of, Slot, Kind}

abbrev pub bytes : String → List ℕ
bytes ε = []
bytes (c ⊳ s) = code c ∷ bytes s

-- ids and other whole numbers, and floats: a name, how many items, and of how many slots from here on one is there
abbrev pub ids : String → Size → ℕ → Slot
ids s size group = record { name = bytes s; sort = numbers; size = size; one_of = group }

abbrev pub reals : String → Size → ℕ → Slot
reals s size group = record { name = bytes s; sort = floats; size = size; one_of = group }

-- a word that stands for itself, one of a group
abbrev pub tag : String → ℕ → Slot
tag s group = ids s (exactly 0) group

abbrev pub forms : String → List Slot → Kind
forms s slots = record { title = bytes s; slots = slots; single = false }

unfoldable pub kinds : List Kind
kinds =
    record {
      title = bytes "scene";
      slots = ids "node" (exactly 1) 1 ∷ reals "time" (exactly 1) 1 ∷
          ids "roots" (entries_of 1) 1 ∷ [];
      single = true;
    }
    ∷ forms "node"
    (reals "parts" (exactly 10) 2 ∷ reals "matrix" (exactly 16) 0 ∷ ids "children" (entries_of 1) 1 ∷
    ids "mesh" (exactly 1) 0 ∷ ids "skin" (exactly 1) 0 ∷ reals "weights" (entries_of 1) 0 ∷ [])
    ∷ forms "channel"
    (ids "target" (exactly 1) 1 ∷ tag "translation" 4 ∷ tag "rotation" 0 ∷ tag "scale" 0 ∷ tag "weights" 0 ∷
    tag "step" 3 ∷ tag "linear" 0 ∷ tag "cubicspline" 0 ∷ reals "keys" (entries_of 1) 1 ∷
    reals "vec3" (entries_of 3) 3 ∷ reals "quat" (entries_of 4) 0 ∷ reals "scalar" (entries_of 1) 0 ∷ [])
    ∷ forms "mesh"
    (ids "primitives" (exactly 2) 1 ∷ reals "weights" (entries_of 1) 1 ∷ [])
    ∷ forms "primitive"
    (reals "positions" (entries_of 3) 1 ∷ reals "normals" (entries_of 3) 0 ∷ reals "tangents" (entries_of 4) 0 ∷
    ids "joints" (entries_of 4) 0 ∷ reals "weights" (entries_of 4) 0 ∷ ids "targets" (exactly 2) 1 ∷ [])
    ∷ forms "target"
    (reals "positions" (entries_of 3) 0 ∷ reals "normals" (entries_of 3) 0 ∷ reals "tangents" (entries_of 3) 0 ∷
    ids "betweens" (exactly 2) 1 ∷ [])
    ∷ forms "between"
    (reals "weight" (exactly 1) 1 ∷ reals "positions" (entries_of 3) 0 ∷ reals "normals" (entries_of 3) 0 ∷ [])
    ∷ forms "skin"
    (ids "skeleton" (exactly 1) 1 ∷ ids "root" (exactly 1) 0 ∷ [])
    ∷ forms "skeleton"
    (ids "joints" (entries_of 1) 1 ∷ reals "binds" (entries_of 16) 1 ∷ [])
    ∷ []

abbrev pub no_slot : Slot
no_slot = ids "" (exactly 0) 0

abbrev pub no_kind : Kind
no_kind = forms "" []

-- kind k, and slot j of it
abbrev pub kind_at : ℕ → Kind
kind_at k = get_or kinds k no_kind

abbrev pub slot_at : ℕ → ℕ → Slot
slot_at k j = get_or (kind_at k).slots j no_slot
