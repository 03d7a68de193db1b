-- The bake that a text asks for, and what is printed of it (request 2026-01): the baked positions, one vertex a line,
-- or the refusal number alone. Definitions only.
use Rattle.std.specs.Prelude.{◌≡◌, List, ℕ, ◌≤◌, ltb, eqb, Float, length, replicate}
use Rattle.std.proofs.lemmas.List.Edits.{sets}
use Rattle.borrowed.specs.Slices.{Words}
use Rattle.float.specs.F32.{zero32}
use Rattle.model.specs.Lists.{pick}
use Rattle.model.specs.Refusals.{number, over_limit, first_of, lowest}
use Rattle.model.specs.Bake.{Outcome}
use Rattle.tables.specs.Decoded.{Lent}
use Rattle.checks.specs.Drawn.{lent_as}
use Rattle.bake.specs.Baked as bake
use Rattle.grammar.specs.Forms.{Document}
use Rattle.scene_forms.specs.Said.{tables_of, header_of, node_of, time_of}
use Rattle.scene_text.specs.declared.Needed.{Needed}
use Rattle.scene_text.specs.Reading.{read, room_tests, needed_as, room_of}
use Rattle.printing.specs.Lines.{vertices_text, number_text}

-- the most bytes that are read
abbrev pub text_limit : ℕ
text_limit = 0x1_0000

-- ---- the bake

-- the tables that a document says
abbrev pub lent_by : Document → Lent
lent_by d =
    lent_as (tables_of d).words (tables_of d).floats (tables_of d).node_weights (tables_of d).mesh_weights (header_of d)

-- as many floats as there can be in a text, at nine bytes each
abbrev pub float_room : ℕ
float_room = 7281

-- for as many nodes, roots and child entries as the limits allow, and for as many floats of each attribute
unfoldable pub room : bake.Room
room = record {
  scratch = record {
    marks = replicate 4096 0;
    slots = replicate 10240 zero32;
    walk = replicate 18432 0;
    places = replicate 1024 0;
    worlds = replicate 16384 zero32;
  };
  output = record {
    positions = replicate float_room zero32;
    normals = replicate float_room zero32;
    tangents = replicate float_room zero32;
  };
}

-- of the node and the time that a document asks for
abbrev pub baked_by : Document → Outcome
baked_by d = bake.outcome (lent_by d) (node_of d) (time_of d) room

-- ---- what is printed

-- 2 for a text that is too long; 13 or 1, as the reader draws them; then what the bake draws
abbrev pub early_number : List ℕ → ℕ
early_number text = pick (ltb text_limit (length text)) (number over_limit) (first_of (room_tests text))

unfoldable pub text_number : List ℕ → ℕ
text_number text = lowest (early_number text) (baked_by (read text)).answer.refusal

-- the positions where nothing is refused, otherwise the number
abbrev pub outcome_text : ℕ → Outcome → List ℕ
outcome_text n o = pick (eqb n 0) (vertices_text o.output.positions) (number_text n)

unfoldable pub printed : List ℕ → List ℕ
printed text = outcome_text (text_number text) (baked_by (read text))

-- it stands at the start of the output, which has room for it
pub record Prints (bytes : List ℕ) (out : Words) (told : ℕ) : Type 0 where
  pub output : out.exit.now ≡ sets out.entry.now 0 bytes
  pub count : told ≡ length bytes
  pub fits : told ≤ length out.exit.now

-- ---- stages

-- what is printed of the bake of a node of a lent scene, and of what a document asks for
abbrev pub bake_text : Lent → ℕ → Float → List ℕ
bake_text l i time = let o = bake.outcome l i time room in outcome_text o.answer.refusal o

unfoldable pub baked_text : Document → List ℕ
baked_text d = bake_text (lent_by d) (node_of d) (time_of d)

-- a text that draws nothing before it is baked
pub record Readable (text : List ℕ) : Type 0 where
  pub short : length text ≤ text_limit
  pub reads : first_of (room_tests text) ≡ 0

abbrev pub needed_for : List ℕ → Needed
needed_for text =
    pick (ltb text_limit (length text))
    (needed_as (number over_limit) (record { words = 0; floats = 0; node_weights = 0; mesh_weights = 0 })) (room_of text)
