-- What the writer of a scene answers (request 2026-01): 1 and 2 as every call on a scene, 10 where the output is too
-- short, otherwise 0 and the length of the text. Definitions only.
use Rattle.std.specs.Prelude.{◌≡◌, List, [], ◌∷◌, ℕ, min, ltb, eqb, Float, length, Result, Ok, Err}
use Rattle.std.proofs.lemmas.List.Edits.{sets}
use Rattle.borrowed.specs.Slices.{Words}
use Rattle.model.specs.Lists.{pick}
use Rattle.model.specs.Refusals.{short_output, first_of, lowest}
use Rattle.refusals.specs.Drawn.{number_of}
use Rattle.refusals.specs.declared.Refusal.{Refusal}
use Rattle.tables.specs.Decoded.{Lent}
use Rattle.checks.specs.Drawn.{tables_number}
use Rattle.grammar.specs.Forms.{document_text}
use Rattle.spelling.specs.Pushed.{farthest}
use Rattle.scene_schema.specs.Schema.{kinds}
use Rattle.scene_spelling.specs.Written.{document_of}
use Rattle.scene_writing.specs.declared.Written.{Written}

-- the text of a lent scene, with the node and the time that are asked for
abbrev pub scene_text : Lent → ℕ → Float → List ℕ
scene_text l node time = document_text kinds (document_of l node time)

abbrev pub written_as : ℕ → ℕ → Written
written_as number length = record { number = number; length = length }

-- what the writer tells, as a C function answers it
abbrev pub told_by : Result ℕ Refusal → Written
told_by (Ok n) = written_as 0 n
told_by (Err r) = written_as (number_of r) 0

abbrev pub write_number : Lent → List ℕ → ℕ → ℕ
write_number l text room =
    lowest (tables_number l) (first_of (record { applies = ltb room (length text); refusal = short_output } ∷ []))

-- refused, nothing is changed; otherwise the text stands at the start of the output, which is as lent past it
pub record SceneWritten (l : Lent) (text : List ℕ) (out : Words) (r : Written) : Type 0 where
  pub answer : r
      ≡ (let n = write_number l text (length out.entry.now) in written_as n (pick (eqb n 0) (length text) 0))
  pub output : out.exit.now
      ≡ pick (eqb (write_number l text (length out.entry.now)) 0) (sets out.entry.now 0 text)
      out.entry.now

-- how long the text is; 2^63 where it is longer, which no slice is
abbrev pub length_for : Lent → List ℕ → Written
length_for l text = written_as (tables_number l) (pick (eqb (tables_number l) 0) (min (length text) farthest) 0)
