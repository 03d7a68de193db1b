-- The room that a scene needs, from what its tables tell. Assumes no_room.
use mathlib.Core.Path.{◌≡◌, refl, sym, ap, ◌∙◌}
use mathlib.Core.Bool.{Bool, true, false, not}
use mathlib.Core.Option.{Option, none, some}
use Prim.Native.Nat.{ℕ, zero, suc, ◌≤◌}
use native.Mathlib.Omega.{arith}
use Rattle.model.specs.Lists.{pick, is_some}
use Rattle.model.specs.Scene.{Mesh, mesh_at}
use Rattle.model.specs.Placing.{child_entries}
use Rattle.model.specs.Refusals.{first_of, lowest}
use Rattle.model.specs.SkinCalls.{weights_number}
use Rattle.tables.specs.Decoded.{Lent, mesh_of, scene_of}
use Rattle.tables.proofs.Decoding.{node-count}
use Rattle.checks.specs.Drawn.{tables_number, capped_entries}
use Rattle.checks.specs.Checked.{Checked}
use Rattle.checks.proofs.Clearing.{checked}
use Rattle.shapes.specs.declared.Lengths.{Lengths}
use Rattle.shapes.specs.Rest.{lengths_below, Drawable}
use Rattle.bake.proofs.Meshed.{mesh_row_of, MeshIs, mesh-is, drawable}
use Rattle.bake_room.specs.declared.Room.{Room}
use Rattle.bake_room.specs.Needed.{no_room, room_from, lengths_in, room_in, room_or, room_for}
use Rattle.bake_room.proofs.Counted.{lengths-are}

no_number : (g : ℕ) (b : Bool) → lowest g (pick (not b) 7 0) ≡ 0 → (g ≡ 0) × (b ≡ true)
no_number zero true h = (refl, refl)
no_number zero false h = absurd (omega (arith, h))
no_number (suc g) b h = absurd (omega (arith, h))

module _ (l : Lent) (i : ℕ) where
  -- the mesh that the records of node i name, and its floats
  abbrev pub mesh : Mesh
  mesh = mesh_of l (mesh_row_of l i)

  abbrev all : Lengths
  all =
      let part = (mesh_row_of l i).primitives in
      lengths_below l.words l.header.meshes.primitives part part.count

  pub refused-with : (n : ℕ) → n ≡ weights_number (tables_number l) (scene_of l) i → (n ≡ 0 → ⊥) → no_room n ≡ room_for l i
  unfolding room_for weights_number first_of
  refused-with n e d = go (tables_number l) (mesh_at (scene_of l) i) e
    where
      go : (g : ℕ) (m : Option Mesh) → n ≡ lowest g (pick (not (is_some m)) 7 0) → no_room n ≡ room_or g (scene_of l) m
      go zero none e = ap no_room e
      go zero (some m) e = absurd (d e)
      go (suc g) m e = ap no_room e

  pub none-drawn : weights_number (tables_number l) (scene_of l) i ≡ 0
      → (tables_number l ≡ 0) × (is_some (mesh_at (scene_of l) i) ≡ true)
  unfolding weights_number first_of
  none-drawn z = no_number (tables_number l) (is_some (mesh_at (scene_of l) i)) z

  -- tables that draw no number, and a node that has a mesh
  module _ (z : tables_number l ≡ 0) (m : is_some (mesh_at (scene_of l) i) ≡ true) where
    pub is : MeshIs l i
    is = mesh-is l i m

    clear : Checked l
    clear = checked l z

    pub draw : Drawable l.words l.floats l.header.meshes.primitives (mesh_row_of l i).primitives
    draw = drawable l clear _ is.mesh

    pub lengths : lengths_in mesh ≡ all
    lengths = lengths-are l (mesh_row_of l i) draw

    pub room-is : room_for l i ≡ room_in (scene_of l) mesh
    unfolding room_for
    room-is = λ j. room_or (z j) (scene_of l) (is.at j)

    pub few : (children : ℕ) → children ≡ capped_entries l.words l.header.graph.nodes
        → (l.header.graph.nodes.count ≤ 1024) × (l.header.graph.roots.count ≤ 1024) × (children ≤ 8192)
    few children e =
        let k = clear in (
          omega (arith, node-count l, k.few-nodes),
          omega (arith, k.root-count, k.few-roots),
          omega (arith, e, k.children, k.few-children),
        )

    pub told : (children : ℕ) → children ≡ capped_entries l.words l.header.graph.nodes
        → (n : Lengths) → n ≡ all → (r : Room)
        → r ≡ room_from l.header.graph.nodes.count l.header.graph.roots.count children n
        → r ≡ room_for l i
    told children e n f r g =
        let k = clear in
        let c : children ≡ child_entries (scene_of l) = omega (arith, e, k.children, k.few-children) in
        g
        ∙ (λ j. room_from (sym (node-count l) j) (sym k.root-count j) (c j) ((f ∙ sym lengths) j))
        ∙ sym room-is
