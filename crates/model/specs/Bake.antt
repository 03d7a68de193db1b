-- The bake of one node: scope, "Morphed and baked vertices" (`world_mesh_at` of pose.rs). Definitions only.
use Rattle.std.specs.Prelude.{List, [], ◌∷◌, ◌++◌, map, Bool, true, false, ◌&&◌, ℕ, zero, suc, leb, Float, length, drop}
use Rattle.std.proofs.Math.Option.{Option, none, some}
use Rattle.model.specs.Lists.{pick, joined, is_some, and_then}
use Rattle.model.specs.Vector.{Vector}
use Rattle.model.specs.Matrix.{Matrix}
use Rattle.model.specs.Scene.{Scene, Skeleton, Mesh, Primitive, node_at, mesh_at, skeleton_at}
use Rattle.model.specs.Placing.{taken}
use Rattle.model.specs.Pose.{Pose}
use Rattle.model.specs.World.{poses_of, pose_at, worlds, world_at}
use Rattle.model.specs.Skin.{palette_of, blend_weights}
use Rattle.model.specs.Morph.{morphed}
use Rattle.model.specs.Vertices.{Shape, transformed, skinned}
use Rattle.model.specs.Refusals.{number, no_such_node, unplaced_node, no_palette, short_output, Scratch, early_number}

-- the three outputs (the scope's sheets) as floats
pub record Output : Type 0 where
  pub positions : List Float
  pub normals : List Float
  pub tangents : List Float

-- what is asked for, with the lengths of the scratch room (the scope's bench) and of the three outputs
pub record Request : Type 0 where
  pub node : ℕ
  pub time : Float
  pub scratch : Scratch
  pub position_room : ℕ
  pub normal_room : ℕ
  pub tangent_room : ℕ

-- the refusal number or 0, the three lengths in floats, and the entries taken
pub record Answer : Type 0 where
  pub refusal : ℕ
  pub positions : ℕ
  pub normals : ℕ
  pub tangents : ℕ
  pub taken : ℕ

pub record Outcome : Type 0 where
  pub answer : Answer
  pub output : Output

-- every other number of the answer is 0, and nothing is put out
abbrev pub refused : ℕ → Outcome
refused k = record {
  answer = record { refusal = k; positions = 0; normals = 0; tangents = 0; taken = 0 };
  output = record { positions = []; normals = []; tangents = [] };
}

-- an output after the call: past the result it is as lent
abbrev pub written : List Float → List Float → List Float
written result lent = result ++ drop (length result) lent

-- ---- a primitive

-- with a palette, and joints and weights present: skinned; otherwise transformed
unfoldable pub placed_shape : Matrix → Option (List Matrix) → Option (List (List ℕ)) → Option (List Vector)
    → Primitive → Shape
placed_shape world none js ws p = transformed world p
placed_shape world (some palette) none ws p = transformed world p
placed_shape world (some palette) (some js) none p = transformed world p
placed_shape world (some palette) (some js) (some ws) p = skinned palette js ws p

unfoldable pub baked_primitive : Matrix → Option (List Matrix) → List Float → Primitive → Shape
baked_primitive world palette weights p =
    let m = morphed weights p in
    placed_shape world palette m.joints m.weights m

abbrev floats : List Vector → List Float
floats l = joined (λ (v : Vector). v) l

-- primitives in order
unfoldable pub output_of : List Shape → Output
output_of l = record {
  positions = joined (λ (s : Shape). floats s.positions) l;
  normals = joined (λ (s : Shape). floats s.normals) l;
  tangents = joined (λ (s : Shape). floats s.tangents) l;
}

-- ---- the whole

-- the palette of a node: `some none` where it has no skin, none where it has one and no palette can be made
abbrev pub palette_with : (ℕ → Option Matrix) → Bool → Option Skeleton → Option (Option (List Matrix))
palette_with world false k = some none
palette_with world true k = and_then k (λ (t : Skeleton). and_then (palette_of world t) (λ ms. some (some ms)))

abbrev pub fits : Request → Output → Bool
fits r o =
    leb (length o.positions) r.position_room && leb (length o.normals) r.normal_room
    && leb (length o.tangents) r.tangent_room

unfoldable pub delivered : Request → ℕ → Output → Outcome
delivered r n o =
    pick (fits r o)
    (record {
      answer = record {
        refusal = 0;
        positions = length o.positions;
        normals = length o.normals;
        tangents = length o.tangents;
        taken = n;
      };
      output = o;
    })
    (refused (number short_output))

-- the lowest number of 7 to 10 that applies, or the result
unfoldable pub judged : Request → ℕ → Option (List Float) → Option (List Float) → Option Mesh → Option Matrix
    → Option (Option (List Matrix)) → Outcome
judged r n posed own none world palette = refused (number no_such_node)
judged r n posed own (some mesh) none palette = refused (number unplaced_node)
judged r n posed own (some mesh) (some world) none = refused (number no_palette)
judged r n posed own (some mesh) (some world) (some palette) =
    delivered r n (output_of (map (baked_primitive world palette (blend_weights posed own mesh)) mesh.primitives))

-- from a pose that is given
unfoldable pub baked_from : List Pose → Scene → Request → Outcome
baked_from ps s r =
    let ws = worlds ps s in
    judged r (taken s) (pose_at ps r.node).weights (node_at s r.node).weights (mesh_at s r.node)
    (world_at ws r.node)
    (palette_with (world_at ws) (is_some (node_at s r.node).skin) (skeleton_at s r.node))

unfoldable pub baked_after : ℕ → Scene → Request → Outcome
baked_after zero s r = baked_from (poses_of r.time s) s r
baked_after (suc g) s r = refused (suc g)

-- the bake; the first argument is what the tables drew, 0, 1 or 2
unfoldable pub bake : ℕ → Scene → Request → Outcome
bake tables s r = baked_after (early_number tables s r.time r.scratch) s r

-- ---- the scratch room after the call

-- what an accepted call leaves there: the pose and the world of every node
pub record Left : Type 0 where
  pub poses : List Pose
  pub worlds : List (Option Matrix)

-- none where the room stays as lent: after 1 to 7
abbrev left_for : Scene → Request → ℕ → Option Mesh → Option Left
left_for s r zero (some mesh) = some (record { poses = poses_of r.time s; worlds = worlds (poses_of r.time s) s })
left_for s r zero none = none
left_for s r (suc g) mesh = none

unfoldable pub left_by : ℕ → Scene → Request → Option Left
left_by tables s r = left_for s r (early_number tables s r.time r.scratch) (mesh_at s r.node)
