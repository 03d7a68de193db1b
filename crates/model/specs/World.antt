-- World matrices: scope, "Placed pieces"; glTF 2.0, 3.5.3. They are a fold over the order of placing. Definitions only.
use Rattle.std.specs.Prelude.{List, ℕ, Float, get_or, set, replicate}
use Rattle.std.proofs.Math.Option.{Option, none, some}
use Rattle.model.specs.Lists.{foldl, or_else}
use Rattle.model.specs.Matrix.{Matrix, identity, mul}
use Rattle.model.specs.Transform.{to_matrix}
use Rattle.model.specs.Scene.{Scene, node_count, node_at}
use Rattle.model.specs.Placing.{Place, unplaced, root, below, Entry, order}
use Rattle.model.specs.Pose.{Pose, at_rest, poses, local_transform}

abbrev pub poses_of : Float → Scene → List Pose
poses_of time s = poses time (node_count s) s.tracks

abbrev pub pose_at : List Pose → ℕ → Pose
pose_at ps i = get_or ps i at_rest

-- the local matrix of node i in a pose
abbrev pub local_at : List Pose → Scene → ℕ → Matrix
local_at ps s i = to_matrix (local_transform (pose_at ps i) (node_at s i).base)

-- the world of what an entry is listed under: for a root the identity
abbrev pub above : List (Option Matrix) → Place → Matrix
above worlds unplaced = identity
above worlds root = identity
above worlds (below p) = or_else (get_or worlds p none) identity

-- the world of a placed node: the world above it times its local matrix; for a root too the product is done
abbrev pub place_one : (ℕ → Matrix) → List (Option Matrix) → Entry → List (Option Matrix)
place_one local worlds e = set worlds e.node (some (mul (above worlds e.place) (local e.node)))

abbrev pub worlds_from : (ℕ → Matrix) → List (Option Matrix) → List Entry → List (Option Matrix)
worlds_from local worlds es = foldl (place_one local) worlds es

-- the worlds of all nodes in a pose, none where a node is not placed (`posed_node_transforms`)
unfoldable pub worlds : List Pose → Scene → List (Option Matrix)
worlds ps s = worlds_from (local_at ps s) (replicate (node_count s) none) (order s)

abbrev pub world_at : List (Option Matrix) → ℕ → Option Matrix
world_at ws i = get_or ws i none
