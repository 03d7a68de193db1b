-- The palette of a skin from lent world slots, how long it is, and where it is written: scope, "Palette, skin root,
-- weights". Definitions only.
use Rattle.std.specs.Prelude as rust
use Rattle.std.specs.Prelude.{◌≡◌, Bool, ◌&&◌, List, [], ◌++◌, ℕ, ◌*◌, ltb, leb, Float, length, get_or, drop}
use Rattle.borrowed.specs.Slices.{Change}
use Rattle.model.specs.Lists.{pick, tabulate, rows_in, joined, is_some, or_else, map_some}
use Rattle.model.specs.Refusals.{number, no_palette}
use Rattle.model.specs.Matrix.{Matrix, identity, mul}
use Rattle.model.specs.Scene.{Skeleton}
use Rattle.model.specs.SkinCalls.{skin_palette}
use Rattle.scene.specs.Slots.{matrix_in}
use Rattle.tables.specs.declared.Header.{Header}
use Rattle.tables.specs.Tags.{is_marked, option_of}
use Rattle.tables.specs.Decoded.{scene_of}
use Rattle.checks.specs.Drawn.{lent_as}
use Rattle.worlds.specs.Slots.{world_in}

-- an answer's number, 9 where no palette can be made
abbrev pub number_of : rust.Option ℕ → ℕ
number_of (rust.Some n) = 0
number_of rust.None = number no_palette

-- node j of n has a world, by the codes of the places
abbrev pub has_world : ℕ → List ℕ → ℕ → Bool
has_world n codes j = ltb j n && is_marked (get_or codes j 0)

-- a skeleton whose inverse binds lie in a slice
abbrev pub skeleton_in : List ℕ → List Float → Skeleton
skeleton_in ids binds = record { joints = ids; inverse_binds = rows_in 16 binds }

-- the inverse bind at `at`, or the identity where the slice has none
abbrev pub bind_in : List Float → ℕ → Matrix
bind_in binds at = pick (ltb (length binds) 16) identity (matrix_in binds at)

-- world times inverse bind, joint by joint
unfoldable pub palette_in : List ℕ → List Float → List Float → List Matrix
palette_in ids binds worlds =
    tabulate (length ids) (λ t. mul (matrix_in worlds (get_or ids t 0 * 16)) (bind_in binds (t * 16)))

-- matrices at the start of a slice, if it has room for them; past them it is as lent
unfoldable pub laid_out : List Matrix → List Float → List Float
laid_out p lent = pick (leb (length p * 16) (length lent)) (joined (λ m. m) p ++ drop (length p * 16) lent) lent

-- whether there is a palette of skin k, and how long it is, whatever the worlds are
pub record Counted (words : List ℕ) (floats : List Float) (h : Header) (k : ℕ) (codes : List ℕ)
    (r : rust.Option ℕ) : Type 0 where
  pub count : (node_weights mesh_weights slots : List Float)
      → option_of r
      ≡ map_some length (skin_palette (world_in h.graph.nodes.count codes slots)
      (scene_of (lent_as words floats node_weights mesh_weights h)) k)
  pub numbered : (node_weights mesh_weights slots : List Float)
      → number_of r
      ≡ pick (is_some (skin_palette (world_in h.graph.nodes.count codes slots)
      (scene_of (lent_as words floats node_weights mesh_weights h)) k)) 0 (number no_palette)

-- the palette of skin k, or nothing changed
pub record Laid (words : List ℕ) (floats : List Float) (h : Header) (k : ℕ) (codes : List ℕ)
    (slots : List Float) (out : Change (List Float)) : Type 0 where
  pub slice : (node_weights mesh_weights : List Float)
      → out.to
      ≡ laid_out (or_else (skin_palette (world_in h.graph.nodes.count codes slots)
      (scene_of (lent_as words floats node_weights mesh_weights h)) k) []) out.from
