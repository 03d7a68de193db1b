-- The refusals of a bake as one list of tests, in the order of the table: scope, "Morphed and baked vertices" and
-- "Numbers when a piece is turned down". Definitions only.
use Rattle.std.specs.Prelude.{not, List, [], ◌∷◌, map, ℕ, eqb}
use Rattle.std.proofs.Math.Option.{Option, none}
use Rattle.std.specs.Float.Ieee.{is_nan}
use Rattle.model.specs.Lists.{is_some, or_else}
use Rattle.model.specs.Matrix.{Matrix, identity}
use Rattle.model.specs.Scene.{Scene, Mesh, node_at, mesh_at, skeleton_at}
use Rattle.model.specs.World.{poses_of, pose_at, worlds, world_at}
use Rattle.model.specs.Skin.{blend_weights}
use Rattle.model.specs.Refusals.{out_of_table, over_limit, no_time, keys_out_of_line, short_scratch, no_such_node, unplaced_node}
use Rattle.model.specs.Refusals.{no_palette, short_output, Test, some_keys_out_of_line, scratch_is_short}
use Rattle.model.specs.Bake.{Request, Output, baked_primitive, output_of, palette_with, fits}

-- the world of each node at the time of the request
abbrev pub world_for : Scene → Request → ℕ → Option Matrix
world_for s r = world_at (worlds (poses_of r.time s) s)

-- the palette of its node: `some none` where it has no skin, none where it has one and no palette can be made
abbrev pub palette_for : Scene → Request → Option (Option (List Matrix))
palette_for s r = palette_with (world_for s r) (is_some (node_at s r.node).skin) (skeleton_at s r.node)

-- what an absent mesh reads as
abbrev pub no_mesh : Mesh
no_mesh = record { primitives = []; weights = [] }

-- the result where there are mesh, world and palette; absent ones read as an empty mesh, the identity and no palette
abbrev pub result_for : Scene → Request → Output
result_for s r =
    let mesh = or_else (mesh_at s r.node) no_mesh in
    let weights = blend_weights (pose_at (poses_of r.time s) r.node).weights (node_at s r.node).weights mesh in
    let world = or_else (world_for s r r.node) identity in
    output_of (map (baked_primitive world (or_else (palette_for s r) none) weights) mesh.primitives)

-- `tables` is what the tables drew, 0, 1 or 2
unfoldable pub bake_tests : ℕ → Scene → Request → List Test
bake_tests tables s r =
    record { applies = eqb tables 1; refusal = out_of_table }
    ∷ record { applies = eqb tables 2; refusal = over_limit }
    ∷ record { applies = is_nan r.time; refusal = no_time }
    ∷ record { applies = some_keys_out_of_line s; refusal = keys_out_of_line }
    ∷ record { applies = scratch_is_short s r.scratch; refusal = short_scratch }
    ∷ record { applies = not (is_some (mesh_at s r.node)); refusal = no_such_node }
    ∷ record { applies = not (is_some (world_for s r r.node)); refusal = unplaced_node }
    ∷ record { applies = not (is_some (palette_for s r)); refusal = no_palette }
    ∷ record { applies = not (fits r (result_for s r)); refusal = short_output }
    ∷ []
