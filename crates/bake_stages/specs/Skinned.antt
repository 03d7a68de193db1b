-- The palette that a bake skins with, from lent world slots. Definitions only.
use Rattle.std.specs.Prelude.{List, ℕ, Float}
use Rattle.std.proofs.Math.Option.{Option}
use Rattle.model.specs.Lists.{and_then}
use Rattle.model.specs.Matrix.{Matrix}
use Rattle.model.specs.Scene.{skeleton_of}
use Rattle.model.specs.SkinCalls.{skin_palette}
use Rattle.model.specs.Bake.{palette_with}
use Rattle.tables.specs.declared.Reference.{Reference}
use Rattle.tables.specs.Tags.{is_marked, id_of}
use Rattle.tables.specs.Decoded.{Lent, scene_of}
use Rattle.worlds.specs.Slots.{world_in}

-- the world of a node, by the codes of the places and the slots
abbrev pub world_from : Lent → List ℕ → List Float → ℕ → Option Matrix
world_from l codes slots = world_in l.header.graph.nodes.count codes slots

abbrev pub skin_palette_from : Lent → ℕ → List ℕ → List Float → Option (List Matrix)
skin_palette_from l k codes slots = skin_palette (world_from l codes slots) (scene_of l) k

-- of what a node names: `some none` where that is no skin
abbrev pub palette_from : Lent → Reference → List ℕ → List Float → Option (Option (List Matrix))
palette_from l r codes slots =
    palette_with (world_from l codes slots) (is_marked r.mark) (and_then (id_of r) (λ k. skeleton_of (scene_of l) k))
