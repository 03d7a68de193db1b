-- What the call for a skin's root answers: scope, "Palette, skin root, weights". Definitions only.
use Rattle.std.specs.Prelude.{◌≡◌, List, ℕ, eqb, Float, Option, Result, Ok, Err}
use Rattle.model.specs.Lists.{pick, or_else}
use Rattle.model.specs.Parents.{marks_of}
use Rattle.model.specs.Skin.{skin_root}
use Rattle.model.specs.SkinCalls.{skin_root_number}
use Rattle.refusals.specs.declared.Refusal.{Refusal}
use Rattle.refusals.specs.Drawn.{number_of}
use Rattle.tables.specs.declared.Header.{Header}
use Rattle.tables.specs.Tags.{option_of}
use Rattle.tables.specs.Codes.{codes_of}
use Rattle.tables.specs.Decoded.{Lent, scene_of}
use Rattle.checks.specs.Drawn.{lent_as, tables_number}
use Rattle.skin_roots.specs.declared.Root.{Root}

-- the root of skin k, whatever floats are lent, if the codes are those of the nodes' marks
pub record Rooted (words : List ℕ) (h : Header) (k : ℕ) (codes : List ℕ) (r : Option ℕ) : Type 0 where
  pub root : (floats node_weights mesh_weights : List Float)
      → codes ≡ codes_of (marks_of (scene_of (lent_as words floats node_weights mesh_weights h)))
      → option_of r ≡ skin_root (scene_of (lent_as words floats node_weights mesh_weights h)) k

-- what a C function answers
abbrev pub answer_of : Result ℕ Refusal → Root
answer_of (Ok node') = record { number = 0; node = node' }
answer_of (Err r) = record { number = number_of r; node = 0 }

-- the number, and the root's id or 0
pub record RootAnswered (l : Lent) (k : ℕ) (a : Root) : Type 0 where
  pub number : a.number ≡ skin_root_number (tables_number l) (scene_of l) k
  pub node : a.node ≡ pick (eqb a.number 0) (or_else (skin_root (scene_of l) k) 0) 0
