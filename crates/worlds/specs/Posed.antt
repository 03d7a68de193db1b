-- The local matrix of a node in a pose that is lent in slots, and the worlds of nodes written with it: scope, "Placed
-- pieces". Definitions only.
use Rattle.std.specs.Prelude.{List, ◌++◌, ℕ, ◌*◌, Float, drop, replicate}
use Rattle.float.specs.F32.{zero32}
use Rattle.model.specs.Lists.{foldl}
use Rattle.model.specs.Matrix.{Matrix}
use Rattle.model.specs.Transform.{to_matrix}
use Rattle.model.specs.Pose.{local_transform}
use Rattle.tracks.specs.declared.Part.{Part}
use Rattle.tables.specs.declared.Graph.{Graph}
use Rattle.tables.specs.Records.{node_row}
use Rattle.tables.specs.Decoded.{Lent, base_of}
use Rattle.pose_slots.specs.Slots.{pose_in}
use Rattle.worlds.specs.Slots.{placed_in}

unfoldable pub local_in : List ℕ → List Float → Part → List ℕ → List Float → ℕ → Matrix
local_in words floats nodes marks slots i =
    to_matrix (local_transform (pose_in marks slots i) (base_of floats (node_row words nodes i)))

-- of what is lent
abbrev pub local_of : Lent → List ℕ → List Float → ℕ → Matrix
local_of l marks slots i = local_in l.words l.floats l.header.graph.nodes marks slots i

-- world slots after the worlds of the nodes of `order` are written there, one after the other
abbrev pub placed_in_order : Lent → List ℕ → List Float → List ℕ → List ℕ → List Float → List Float
placed_in_order l marks slots places order worlds = foldl (placed_in (local_of l marks slots) places) worlds order

-- world slots with none for any node; past the nodes they are as lent
abbrev pub unplaced_in : Graph → List Float → List Float
unplaced_in graph worlds = replicate (graph.nodes.count * 16) zero32 ++ drop (graph.nodes.count * 16) worlds
