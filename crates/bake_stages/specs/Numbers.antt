-- The numbers of a bake, as its stages find them: as far as 6, as far as 7, and past 7 (scope, "Numbers when a piece is
-- turned down"). Definitions only.
use Rattle.std.specs.Prelude.{Bool, List, ℕ, Float}
use Rattle.model.specs.Lists.{pick, is_some}
use Rattle.model.specs.Scene.{mesh_at}
use Rattle.model.specs.Refusals.{Scratch, lowest, early_number, number}
use Rattle.model.specs.Refusals.{no_such_node, unplaced_node, no_palette, short_output}
use Rattle.tables.specs.Records.{node_row}
use Rattle.tables.specs.Decoded.{Lent, scene_of}
use Rattle.checks.specs.Drawn.{tables_number}
use Rattle.bake_stages.specs.Skinned.{world_from, palette_from}

abbrev pub early_for : Lent → Float → Scratch → ℕ
early_for l time r = early_number (tables_number l) (scene_of l) time r

-- and no such node where node i has no mesh
abbrev pub first_for : Lent → ℕ → Float → Scratch → ℕ
first_for l i time r = lowest (early_for l time r) (pick (is_some (mesh_at (scene_of l) i)) 0 (number no_such_node))

-- unplaced, no palette, short output or none: whether the node has a world, its palette can be made, and the outputs
-- are long enough
abbrev pub late_number : Bool → Bool → Bool → ℕ
late_number placed palette fits =
    pick placed (pick palette (pick fits 0 (number short_output)) (number no_palette)) (number unplaced_node)

-- by the codes of the places and the slots of the worlds
abbrev pub late_for : Lent → ℕ → List ℕ → List Float → Bool → ℕ
late_for l i codes slots fits =
    late_number (is_some (world_from l codes slots i))
    (is_some (palette_from l (node_row l.words l.header.graph.nodes i).skin codes slots))
    fits
