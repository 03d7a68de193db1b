-- The numbers of calls on scenes in bytes: those of the calls on words and floats, and 6 also where the decoding room
-- is short (scope, "Numbers when a piece is turned down"). The first argument is what the decoding room draws, 6 or 0.
-- Definitions only.
use Rattle.std.specs.Prelude.{List, ℕ, Float}
use Rattle.model.specs.Lists.{pick, is_some}
use Rattle.model.specs.Scene.{mesh_at}
use Rattle.model.specs.Refusals.{number, short_scratch, no_such_node, Scratch, lowest, place_number, early_number}
use Rattle.tables.specs.declared.Graph.{Graph}
use Rattle.tables.specs.Decoded.{Lent, scene_of}
use Rattle.checks.specs.Drawn.{tables_number}
use Rattle.worlds.specs.Rooms.{short_in}

-- 6 where there is room for too few entries, poses or worlds, by the counts of the tables, otherwise the decoding
-- room's
abbrev pub room_in : ℕ → List ℕ → Graph → ℕ → ℕ → ℕ → ℕ
room_in room words graph walk poses worlds = pick (short_in words graph walk poses worlds) (number short_scratch) room

-- a placing
abbrev pub place_in : ℕ → Lent → Scratch → ℕ
place_in room l r = lowest (place_number (tables_number l) (scene_of l) r) room

-- a bake, as far as 6
abbrev pub early_in : ℕ → Lent → Float → Scratch → ℕ
early_in room l time r = lowest (early_number (tables_number l) (scene_of l) time r) room

-- and 7 where node i has no mesh
abbrev pub mesh_number : Lent → ℕ → ℕ
mesh_number l i = pick (is_some (mesh_at (scene_of l) i)) 0 (number no_such_node)

abbrev pub first_in : ℕ → Lent → ℕ → Float → Scratch → ℕ
first_in room l i time r = lowest (early_in room l time r) (mesh_number l i)
