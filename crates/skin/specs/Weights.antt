-- What rows say of the weights that a mesh is blended with, whatever else is lent: scope, "Palette, skin root,
-- weights". Definitions only.
use Rattle.std.specs.Prelude.{◌≡◌, Bool, ◌&&◌, List, ℕ, ltb, Float}
use Rattle.model.specs.Lists.{is_some}
use Rattle.model.specs.Scene.{mesh_at}
use Rattle.model.specs.Skin.{effective_weights}
use Rattle.model.specs.SkinCalls.{weights_number, weights_of}
use Rattle.tables.specs.declared.Header.{Header}
use Rattle.tables.specs.declared.NodeRow.{NodeRow}
use Rattle.tables.specs.declared.MeshRow.{MeshRow}
use Rattle.tables.specs.Tags.{is_marked}
use Rattle.tables.specs.Decoded.{Lent, node_of, mesh_of, scene_of}
use Rattle.checks.specs.Drawn.{lent_as, tables_number}

-- the effective weights of the node and the mesh that two rows say
pub record Effective (node_weights mesh_weights : List Float) (node : NodeRow) (mesh : MeshRow)
    (r : List Float) : Type 0 where
  pub weights : (words : List ℕ) (floats : List Float) (h : Header)
      → r ≡ effective_weights (node_of (lent_as words floats node_weights mesh_weights h) node).weights
      (mesh_of (lent_as words floats node_weights mesh_weights h) mesh)

-- whether the row of a node names one of the meshes (scope, "Numbers when a piece is turned down", 7)
abbrev pub names_mesh : NodeRow → Header → Bool
names_mesh row h = is_marked row.mesh.mark && ltb row.mesh.id h.meshes.meshes.count

-- whether node i has a mesh
pub record Meshed (words : List ℕ) (h : Header) (i : ℕ) (r : Bool) : Type 0 where
  pub told : (floats node_weights mesh_weights : List Float)
      → r ≡ is_some (mesh_at (scene_of (lent_as words floats node_weights mesh_weights h)) i)

-- the number of the call for the weights of node i's mesh, and the weights, none where it is refused
abbrev pub weights_number_for : Lent → ℕ → ℕ
weights_number_for l i = weights_number (tables_number l) (scene_of l) i

abbrev pub weights_for : Lent → ℕ → List Float
weights_for l i = weights_of (tables_number l) (scene_of l) i
