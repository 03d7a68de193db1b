-- What the call for a node's palette answers and leaves: scope, "Palette, skin root, weights" and "Numbers when a piece
-- is turned down". Definitions only.
use Rattle.std.specs.Prelude as rust
use Rattle.std.specs.Prelude.{◌≡◌, List, [], ◌++◌, ℕ, ◌*◌, ◌/◌, min, eqb, Float, length, drop, Result, Ok, Err}
use Rattle.std.proofs.Math.Option.{Option}
use Rattle.borrowed.specs.Slices.{Change}
use Rattle.model.specs.Lists.{pick, joined, or_else, map_some}
use Rattle.model.specs.Matrix.{Matrix}
use Rattle.model.specs.Scene.{node_count}
use Rattle.model.specs.SkinCalls.{node_palette, palette_number}
use Rattle.refusals.specs.declared.Refusal.{Refusal}
use Rattle.refusals.specs.Drawn.{number_of}
use Rattle.tables.specs.declared.Header.{Header}
use Rattle.tables.specs.Decoded.{Lent, scene_of}
use Rattle.checks.specs.Drawn.{lent_as, tables_number}
use Rattle.worlds.specs.Slots.{world_in}
use Rattle.skin.specs.declared.Answer.{Answer}
use Rattle.tables.specs.Tags.{option_of}

-- the palette of node i, from the world slots
abbrev pub palette_at : Lent → ℕ → List ℕ → List Float → Option (List Matrix)
palette_at l i codes slots = node_palette (world_in (node_count (scene_of l)) codes slots) (scene_of l) i

-- how long it is, whatever the worlds are
pub record NodeCounted (words : List ℕ) (floats : List Float) (h : Header) (i : ℕ) (codes : List ℕ)
    (r : rust.Option ℕ) : Type 0 where
  pub count : (node_weights mesh_weights slots : List Float)
      → option_of r ≡ map_some length (palette_at (lent_as words floats node_weights mesh_weights h) i codes slots)

-- what a C function answers
abbrev pub answer_of : Result ℕ Refusal → Answer
answer_of (Ok length') = record { number = 0; length = length' }
answer_of (Err r) = record { number = number_of r; length = 0 }

-- the answer with n world slots and room for so many floats, whatever the worlds are
pub record Judged (l : Lent) (i : ℕ) (codes : List ℕ) (n room : ℕ) (a : Answer) : Type 0 where
  pub number : (slots : List Float)
      → a.number ≡ palette_number (tables_number l) (scene_of l) n i (palette_at l i codes slots) room
  pub floats : (slots : List Float)
      → a.length ≡ pick (eqb a.number 0) (length (or_else (palette_at l i codes slots) []) * 16) 0

-- The number, and the floats written or 0; the palette stands at the start of the slice, or nothing is changed.
pub record Answered (l : Lent) (i : ℕ) (codes : List ℕ) (slots : List Float) (out : Change (List Float)) (a : Answer)
    : Type 0 where
  pub number :
      a.number
      ≡ palette_number (tables_number l) (scene_of l) (min (length codes) (length slots / 16)) i
      (palette_at l i codes slots) (length out.from)
  pub floats : a.length ≡ pick (eqb a.number 0) (length (or_else (palette_at l i codes slots) []) * 16) 0
  pub slice :
      out.to
      ≡ pick (eqb a.number 0)
      (joined (λ m. m) (or_else (palette_at l i codes slots) [])
      ++ drop (length (or_else (palette_at l i codes slots) []) * 16) out.from)
      out.from
