-- What the scratch room holds after the placing is the model's worlds and palette, and the result that is put out from it. Assumes nothing.
use mathlib.Core.Path.{◌≡◌, refl, sym, ap, ◌∙◌, subst}
use mathlib.Core.Bool.{Bool, true, false, ◌&&◌}
use mathlib.Core.List.{List, map}
use mathlib.Core.Option.{Option, none, some, none-ne-some}
use Prim.Native.Nat.{ℕ, ◌*◌, ◌<◌}
use native.Mathlib.Omega.{arith}
use lib.Dec.{ltb}
use lib.Ieee.{Float}
use lib.ListN.{get_or, take}
use Rattle.model.specs.Lists.{pick, is_some, and_then}
use Rattle.model.specs.Matrix.{Matrix}
use Rattle.model.specs.Scene.{Node, node_count, node_at, skeleton_of, skeleton_at}
use Rattle.model.specs.World.{poses_of, pose_at, worlds, world_at}
use Rattle.model.specs.Skin.{blend_weights}
use Rattle.model.specs.Bake.{Output, written, baked_primitive, output_of, palette_with}
use Rattle.tables.specs.declared.Reference.{Reference}
use Rattle.tables.specs.declared.NodeRow.{NodeRow}
use Rattle.tables.specs.declared.MeshRow.{MeshRow}
use Rattle.tables.specs.Records.{node_row}
use Rattle.tables.specs.Tags.{is_marked, id_of}
use Rattle.tables.specs.Decoded.{Lent, mesh_of, scene_of}
use Rattle.tables.proofs.Decoding.{node-count, node-at}
use Rattle.scene.specs.Slots.{matrix_in}
use Rattle.pose.specs.Encoded.{encoded_words}
use Rattle.worlds.specs.Slots.{world_in}
use Rattle.worlds.proofs.Reading.{worlds-read}
use Rattle.worlds.proofs.Delivering.{enough}
use Rattle.shapes.specs.Rest.{primitives_in, PutOut}
use Rattle.bake_stages.specs.Scratch.{Slices, room_of, scratch_left}
use Rattle.bake_stages.specs.Skinned.{world_from, palette_from}
use Rattle.bake_stages.proofs.Drawing.{early-accepted}
use Rattle.bake_writing.specs.Weights.{Blending}
use Rattle.bake_writing.specs.Delivered.{mesh_record, part_of, Delivered}
use Rattle.bake_writing.proofs.PosedWeights.{mesh-cut}

-- an id that may be absent is there where it is marked
marked : (r : Reference) → is_marked r.mark ≡ is_some (id_of r)
marked r = go (is_marked r.mark)
  where
    go : (b : Bool) → b ≡ is_some (pick b (some r.id) none)
    go true = refl
    go false = refl

the_one : (b : Bool) (m w : Matrix) → pick b (some m) none ≡ some w → m ≡ w
the_one true m w h = cc
the_one false m w h = absurd (none-ne-some w h)

module _ (l : Lent) (i : ℕ) (time : Float) (lent : Slices) (codes : List ℕ) (slots : List Float) (c : codes ≡ (scratch_left l time lent).places) (d : slots ≡ (scratch_left l time lent).worlds) where
  abbrev ws : List (Option Matrix)
  ws = worlds (poses_of time (scene_of l)) (scene_of l)

  pub worlds-are : (k : ℕ) → world_from l codes slots k ≡ world_at ws k
  unfolding scratch_left
  worlds-are k = (λ j. world_in (sym (node-count l) j) (c j) (d j) k) ∙ worlds-read (poses_of time (scene_of l)) (scene_of l) _ _ k

  module _ (b : i < l.header.graph.nodes.count) where
    abbrev row : NodeRow
    row = node_row l.words l.header.graph.nodes i

    skin-is : id_of row.skin ≡ (node_at (scene_of l) i).skin
    skin-is = sym (ap (λ (n : Node). n.skin) (node-at l i b))

    pub palette-is : palette_from l row.skin codes slots ≡ palette_with (world_at ws) (is_some (node_at (scene_of l) i).skin) (skeleton_at (scene_of l) i)
    palette-is =
        (λ j. palette_with (λ k. worlds-are k j) (marked row.skin j) (and_then (id_of row.skin) (λ k. skeleton_of (scene_of l) k)))
        ∙ (λ j. palette_with (world_at ws) (is_some (skin-is j)) (and_then (skin-is j) (λ k. skeleton_of (scene_of l) k)))

    pub world_is : (w : Matrix) → world_at ws i ≡ some w → matrix_in slots (i * 16) ≡ w
    world_is w e = the_one (ltb i l.header.graph.nodes.count && is_marked (get_or codes i 0)) (matrix_in slots (i * 16)) w (worlds-are i ∙ e)

marks-left : (l : Lent) (time : Float) (lent : Slices) → (scratch_left l time lent).marks ≡ encoded_words time (node_count (scene_of l)) (scene_of l).tracks lent.marks
unfolding scratch_left
marks-left l time lent = refl

-- outputs that hold a result, said of an equal one
put-as : (o q : Output) (lp p ln n lt t : List Float) → o ≡ q → PutOut o lp p ln n lt t → PutOut q lp p ln n lt t
put-as o q lp p ln n lt t e h = record {
  positions = h.positions ∙ ap (λ (x : Output). written x.positions lp) e;
  normals = h.normals ∙ ap (λ (x : Output). written x.normals ln) e;
  tangents = h.tangents ∙ ap (λ (x : Output). written x.tangents lt) e;
}

module _ (l : Lent) (i : ℕ) (time : Float) (marks codes : List ℕ) (slots : List Float) (blend : List Float) (r : ℕ) (m : Matrix) (lp p ln n lt t : List Float) where
  from-records : Blending l time marks i (mesh_record l.words l.header i) blend r → m ≡ matrix_in slots (i * 16)
      → ((o : Option (List Matrix)) → palette_from l (node_row l.words l.header.graph.nodes i).skin codes slots ≡ some o
      → PutOut (output_of (map (baked_primitive m o (take r blend)) (primitives_in l (part_of l.words l.header i)))) lp p ln n lt t)
      → Delivered l i time marks codes slots lp p ln n lt t
  from-records g e put = record {
    result = λ lent z b c f h k w o u v.
        let a = early-accepted l time (room_of lent) z in
        let s = enough (scene_of l) (room_of lent) a.3 in
        let full = blend_weights (pose_at (poses_of time (scene_of l)) i).weights (node_at (scene_of l) i).weights (mesh_of l (mesh_record l.words l.header i)) in
        let cut : take r blend ≡ take 64 full
        = g.weights a.0 a.1 a.2 (omega (arith, node-count l)) lent.marks lent.slots s.1 (f ∙ marks-left l time lent) in
        let x : m ≡ w = e ∙ world_is l i time lent codes slots h k b w u in
        put-as _ _ lp p ln n lt t
        (ap output_of ((λ j. map (baked_primitive (x j) o (cut j)) (mesh_of l (mesh_record l.words l.header i)).primitives) ∙ mesh-cut w o full l a.0 _ c))
        (put o (palette-is l i time lent codes slots h k b ∙ v));
  }

  -- from the records that were read
  pub delivered : (mesh : MeshRow) (row : NodeRow) → mesh ≡ mesh_record l.words l.header i → row ≡ node_row l.words l.header.graph.nodes i
      → Blending l time marks i mesh blend r → m ≡ matrix_in slots (i * 16)
      → ((o : Option (List Matrix)) → palette_from l row.skin codes slots ≡ some o → PutOut (output_of (map (baked_primitive m o (take r blend)) (primitives_in l mesh.primitives))) lp p ln n lt t)
      → Delivered l i time marks codes slots lp p ln n lt t
  delivered _ _ x y g e put =
      from-records (subst (λ (k : MeshRow). Blending l time marks i k blend r) x g) e
      (λ o f. put-as _ _ lp p ln n lt t (λ j. output_of (map (baked_primitive m o (take r blend)) (primitives_in l (x j).primitives))) (put o ((λ j. palette_from l (y j).skin codes slots) ∙ f)))
