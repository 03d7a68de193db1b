-- Whether a node has a world, by the code of its place. Assumes nothing.
use mathlib.Core.Path.{◌≡◌, refl}
use mathlib.Core.Bool.{Bool, true, false, ◌&&◌}
use mathlib.Core.List.{List}
use mathlib.Core.Option.{none, some}
use Prim.Native.Nat.{ℕ, ◌*◌}
use lib.Dec.{ltb}
use lib.Ieee.{Float}
use lib.ListN.{get_or}
use Rattle.model.specs.Lists.{pick, is_some}
use Rattle.tables.specs.Tags.{is_marked}
use Rattle.scene.specs.Slots.{matrix_in}
use Rattle.worlds.specs.Slots.{world_in}

-- a world that is read is there where the code says so
pub world-there : (n : ℕ) (codes : List ℕ) (slots : List Float) (i : ℕ) → is_some (world_in n codes slots i) ≡ (ltb i n && is_marked (get_or codes i 0))
world-there n codes slots i = go (ltb i n && is_marked (get_or codes i 0))
  where
    go : (b : Bool) → is_some (pick b (some (matrix_in slots (i * 16))) none) ≡ b
    go true = refl
    go false = refl
