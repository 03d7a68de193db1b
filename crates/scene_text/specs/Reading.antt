-- What the reader of a text answers (request 2026-01): 13 where the text has no reading, 1 where a list of records
-- leaves its table, 10 where a table is too short, otherwise 0. Definitions only.
use Rattle.std.specs.Prelude.{◌≡◌, not, List, [], ◌∷◌, ℕ, min, eqb, length, Result, Ok, Err}
use Rattle.std.proofs.lemmas.List.Edits.{sets}
use Rattle.borrowed.specs.Slices.{Change}
use Rattle.float.specs.F32.{zero32}
use Rattle.refusals.specs.Drawn.{number_of}
use Rattle.refusals.specs.declared.Refusal.{Refusal}
use Rattle.model.specs.Lists.{pick, is_some, or_else}
use Rattle.model.specs.Refusals.{Test, bad_form, out_of_table, short_output, first_of}
use Rattle.tables.specs.declared.Header.{Header}
use Rattle.grammar.specs.Forms.{Document}
use Rattle.grammar.specs.Parsed.{reading_of}
use Rattle.scene_schema.specs.Schema.{kinds}
use Rattle.spelling.specs.Pushed.{farthest}
use Rattle.scene_forms.specs.Read.{Slices}
use Rattle.scene_text.specs.declared.Reading.{Reading}
use Rattle.scene_text.specs.declared.Needed.{Needed}
use Rattle.scene_text.specs.declared.Contents.{Contents}
use Rattle.scene_text.specs.declared.Lengths.{Lengths}
use Rattle.scene_text.specs.Scanned.{is_short}
use Rattle.scene_forms.specs.Said.{tables_of, header_from, table_at, header_of, node_of, time_of, leaves}

-- the reading of a text; where it has none, what this is does not matter
abbrev pub read : List ℕ → Document
read text = or_else (reading_of kinds text) []

-- how long each slice is
abbrev pub lengths_of : Slices → Lengths
lengths_of s = record {
  words = length s.words;
  floats = length s.floats;
  node_weights = length s.node_weights;
  mesh_weights = length s.mesh_weights;
}

abbrev pub needed_by : Document → Lengths
needed_by d = lengths_of (tables_of d)

abbrev pub read_tests : List ℕ → Lengths → List Test
read_tests text lent =
    record { applies = not (is_some (reading_of kinds text)); refusal = bad_form }
    ∷ record { applies = leaves (read text); refusal = out_of_table }
    ∷ record { applies = is_short lent (needed_by (read text)); refusal = short_output }
    ∷ []

abbrev pub read_number : List ℕ → Lengths → ℕ
read_number text lent = first_of (read_tests text lent)

-- each slice holds its table at its start, and is as lent past it
abbrev pub laid_in : Document → Slices → Slices
laid_in d s = record {
  words = sets s.words 0 (tables_of d).words;
  floats = sets s.floats 0 (tables_of d).floats;
  node_weights = sets s.node_weights 0 (tables_of d).node_weights;
  mesh_weights = sets s.mesh_weights 0 (tables_of d).mesh_weights;
}

abbrev pub no_header : Header
no_header = header_from 0 (table_at 0 0) (λ k. 0)

-- what a refusal answers, and what a reading does
abbrev pub refused_by : ℕ → Reading
refused_by n = record { number = n; header = no_header; node = 0; time = zero32 }

abbrev pub accepted_as : Document → Reading
accepted_as d = record { number = 0; header = header_of d; node = node_of d; time = time_of d }

-- what the reader tells, as a C function answers it
abbrev pub answer_of : Result Contents Refusal → Reading
answer_of (Ok s) = record { number = 0; header = s.header; node = s.node; time = s.time }
answer_of (Err r) = refused_by (number_of r)

-- refused, nothing is changed
pub record SceneRead (text : List ℕ) (l : Change Slices) (r : Reading) : Type 0 where
  pub answer : r ≡ pick (eqb (read_number text (lengths_of l.from)) 0) (accepted_as (read text))
      (refused_by (read_number text (lengths_of l.from)))
  pub slices : l.to ≡ pick (eqb (read_number text (lengths_of l.from)) 0) (laid_in (read text) l.from) l.from

-- ---- how much room a text needs

abbrev pub room_tests : List ℕ → List Test
room_tests text =
    record { applies = not (is_some (reading_of kinds text)); refusal = bad_form }
    ∷ record { applies = leaves (read text); refusal = out_of_table }
    ∷ []

-- what is told of it, as a C function answers it
abbrev pub told_by : Result Lengths Refusal → Needed
told_by (Ok l) = record {
  number = 0;
  words = l.words;
  floats = l.floats;
  node_weights = l.node_weights;
  mesh_weights = l.mesh_weights;
}
told_by (Err r) = record { number = number_of r; words = 0; floats = 0; node_weights = 0; mesh_weights = 0 }

abbrev pub needed_as : ℕ → Lengths → Needed
needed_as n l = record {
  number = n;
  words = min l.words farthest;
  floats = l.floats;
  node_weights = l.node_weights;
  mesh_weights = l.mesh_weights;
}

-- the lengths of its tables; 2^63 words where they are more, which no slice has
abbrev pub room_of : List ℕ → Needed
room_of text =
    pick (eqb (first_of (room_tests text)) 0) (needed_as 0 (needed_by (read text)))
    (needed_as (first_of (room_tests text)) (record { words = 0; floats = 0; node_weights = 0; mesh_weights = 0 }))
