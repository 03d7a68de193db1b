-- What a scene that was read lends. Definitions only.
use Rattle.std.specs.Prelude.{List, ℕ, take}
use Rattle.tables.specs.Decoded.{Lent}
use Rattle.checks.specs.Drawn.{lent_as}
use Rattle.lists.specs.Fields.{list_at, floats_at}
use Rattle.scene_lists.specs.Scenes.{places_at, header_at}
use Rattle.scene_lists.specs.declared.scenes.Scene.{Scene}

-- its lists
abbrev pub lent_of : Scene → Lent
lent_of s = lent_as s.words.now s.floats.now s.node_weights.now s.mesh_weights.now s.header

-- what stands at a place: floats and weights as far as there is room
abbrev pub lent_at : List ℕ → ℕ → ℕ → ℕ → ℕ → Lent
lent_at fields at room own mesh =
    let p = places_at fields at room own mesh in
    lent_as (list_at fields p.words) (take room (floats_at fields p.floats)) (take own (floats_at fields p.node_weights))
    (take mesh (floats_at fields p.mesh_weights)) (header_at fields at)
