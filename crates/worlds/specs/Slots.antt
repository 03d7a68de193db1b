-- World slots as they are lent: sixteen floats a node, zeros where it has no world; and one node's world written there.
-- Definitions only.
use Rattle.std.specs.Prelude.{◌&&◌, List, map, ℕ, ◌-◌, ◌*◌, ltb, Float, get_or, replicate}
use Rattle.std.proofs.Math.Option.{Option, none, some}
use Rattle.std.proofs.Math.Seq.{paste}
use Rattle.float.specs.F32.{zero32}
use Rattle.model.specs.Lists.{pick, joined, or_else}
use Rattle.model.specs.Matrix.{Matrix, identity, mul}
use Rattle.scene.specs.Slots.{matrix_in, fits_at}
use Rattle.tables.specs.Tags.{is_marked}

abbrev pub slot_of : Option Matrix → List Float
slot_of o = or_else o (replicate 16 zero32)

abbrev pub slots_of : List (Option Matrix) → List Float
slots_of ws = joined (λ r. r) (map slot_of ws)

-- the world of node i of n, as the codes of their places and the slots say it
abbrev pub world_in : ℕ → List ℕ → List Float → ℕ → Option Matrix
world_in n codes slots i = pick (ltb i n && is_marked (get_or codes i 0)) (some (matrix_in slots (i * 16))) none

-- the world of what a node is placed under, by the code of its place: the identity for a root
abbrev pub above_in : List Float → ℕ → Matrix
above_in slots code = pick (ltb code 3) identity (matrix_in slots ((code - 3) * 16))

-- the slots with the world of node i in place
abbrev pub placed_in : (ℕ → Matrix) → List ℕ → List Float → ℕ → List Float
placed_in local codes slots i =
    pick (fits_at slots (i * 16)) (paste slots (i * 16) (mul (above_in slots (get_or codes i 0)) (local i)) 16) slots
