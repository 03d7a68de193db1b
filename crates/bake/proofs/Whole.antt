-- The whole bake, from what its stages tell. Assumes nothing.
use mathlib.Core.Path.{◌≡◌, refl, sym, ap, ◌∙◌, subst}
use mathlib.Core.Bool.{Bool, true, false, ◌&&◌, false≢true}
use mathlib.Core.List.{List}
use mathlib.Core.Option.{Option, none, some}
use Prim.Native.Nat.{ℕ, zero, suc}
use native.Mathlib.Omega.{arith}
use borrow.Author.Tests.{leb-true}
use lib.Dec.{leb}
use lib.Ieee.{Float}
use lib.ListN.{length}
use Rattle.model.specs.Lists.{pick, is_some}
use Rattle.model.specs.Matrix.{Matrix}
use Rattle.model.specs.Scene.{Mesh, mesh_at}
use Rattle.model.specs.Placing.{taken}
use Rattle.model.specs.Skin.{blend_weights}
use Rattle.model.specs.Refusals.{lowest, early_number}
use Rattle.model.specs.Bake as model
use Rattle.model.proofs.Tests.{both}
use Rattle.tracks.specs.declared.Part.{Part}
use Rattle.tables.specs.Records.{node_row}
use Rattle.tables.specs.Decoded.{Lent, mesh_of, scene_of}
use Rattle.checks.specs.declared.Table.TheVariants as table
use Rattle.checks.specs.Drawn.{tables_number}
use Rattle.checks.specs.Checked.{Checked}
use Rattle.checks.proofs.Clearing.{checked}
use Rattle.shapes.specs.declared.Lengths.{Lengths}
use Rattle.shapes.specs.Rest.{lengths_below, AtMost, Drawable}
use Rattle.bake_stages.specs.Scratch.{Slices, room_of, scratch_left}
use Rattle.bake_stages.specs.Skinned.{world_from, palette_from}
use Rattle.bake_stages.specs.Numbers.{late_number}
use Rattle.bake_stages.proofs.Drawing.{early-accepted}
use Rattle.bake_writing.specs.Delivered.{mesh_record, part_of, SkeletonsWithin, Delivered}
use Rattle.bake_writing.proofs.Finishing.{worlds-are, palette-is}
use Rattle.bake.specs.declared.Answer.{Answer}
use Rattle.bake.specs.Baked.{Room, request_of, answer_of, Baked}
use Rattle.bake.proofs.Meshed.{MeshIs, mesh-is, drawable, Measured, measured}
use Rattle.bake.proofs.Judging.{world_now, palette_now, posed_now, own_now, result_now, refused-late, accepted}

-- said of an equal answer, and of an equal room
pub said : (l : Lent) (i : ℕ) (time : Float) (lent left left' : Room) (a b : Answer) → left' ≡ left → a ≡ b → Baked l i time (record { from = lent; to = left }) b → Baked l i time (record { from = lent; to = left' }) a
said l i time lent left left' a b e f h = record { answer = ap answer_of f ∙ h.answer; room = e ∙ h.room }

none_first : (g : ℕ) (b : Bool) → lowest g (pick b 0 7) ≡ 0 → (g ≡ 0) × (b ≡ true)
none_first zero true h = (refl, refl)
none_first zero false h = absurd (omega (arith, h))
none_first (suc g) b h = absurd (omega (arith, h))

none-late : (a b c : Bool) → late_number a b c ≡ 0 → (a ≡ true) × (b ≡ true) × (c ≡ true)
none-late true true true h = (refl, refl, refl)
none-late true true false h = absurd (omega (arith, h))
none-late true false c h = absurd (omega (arith, h))
none-late false b c h = absurd (omega (arith, h))

-- what is there
there : {A : Type 0} {B : Type 0} (o : Option A) → is_some o ≡ true → ((x : A) → o ≡ some x → B) → B
there none h f = absurd (false≢true h)
there (some x) h f = f x refl

module _ (l : Lent) (i : ℕ) (time : Float) (lent : Room) (z : lowest (early_number (tables_number l) (scene_of l) time (room_of lent.scratch)) (pick (is_some (mesh_at (scene_of l) i)) 0 7) ≡ 0) where
  pub none-early : early_number (tables_number l) (scene_of l) time (room_of lent.scratch) ≡ 0
  none-early = (none_first (early_number (tables_number l) (scene_of l) time (room_of lent.scratch)) (is_some (mesh_at (scene_of l) i)) z).0

  is : MeshIs l i
  is = mesh-is l i (none_first (early_number (tables_number l) (scene_of l) time (room_of lent.scratch)) (is_some (mesh_at (scene_of l) i)) z).1

  clear : Checked l
  clear = checked l (early-accepted l time (room_of lent.scratch) none-early).0

  abbrev part : Part
  part = part_of l.words l.header i

  pub draw : Drawable l.words l.floats l.header.meshes.primitives part
  draw = drawable l clear (node_row l.words l.header.graph.nodes i).mesh.id is.mesh

  pub skeletons : SkeletonsWithin l.words l.header.skins.skeletons
  skeletons k b = (clear.records table.Skeletons k b).1

  abbrev all : Lengths
  all = lengths_below l.words l.header.meshes.primitives part part.count

  module _ (n : Lengths) (e : n ≡ all) (fit : Bool)
      (f : fit ≡ (leb n.positions (length lent.output.positions) && leb n.normals (length lent.output.normals) && leb n.tangents (length lent.output.tangents))) where
    abbrev mesh : Mesh
    mesh = mesh_of l (mesh_record l.words l.header i)

    abbrev put : Matrix → Option (List Matrix) → model.Output
    put w o = result_now l i time lent mesh none-early is.at w o

    sizes : (w : Matrix) (o : Option (List Matrix)) → Measured (put w o) all
    sizes w o = measured l part draw w o (blend_weights (posed_now l i time lent) (own_now l i time lent) mesh)

    fits-is : (w : Matrix) (o : Option (List Matrix)) → model.fits (request_of i time lent) (put w o) ≡ fit
    fits-is w o =
        let m = sizes w o in
        (λ j. leb ((m.positions ∙ ap (λ (k : Lengths). k.positions) (sym e)) j) (length lent.output.positions)
        && leb ((m.normals ∙ ap (λ (k : Lengths). k.normals) (sym e)) j) (length lent.output.normals)
        && leb ((m.tangents ∙ ap (λ (k : Lengths). k.tangents) (sym e)) j) (length lent.output.tangents))
        ∙ sym f

    pub long-enough : fit ≡ true → AtMost all (length lent.output.positions) (length lent.output.normals) (length lent.output.tangents)
    long-enough h =
        let a = both (leb n.positions (length lent.output.positions) && leb n.normals (length lent.output.normals)) _ (sym f ∙ h) in
        let b = both (leb n.positions (length lent.output.positions)) _ a.0 in
        subst (λ (k : Lengths). AtMost k (length lent.output.positions) (length lent.output.normals) (length lent.output.tangents)) e
        (record { position-room = leb-true _ _ b.0; normal-room = leb-true _ _ b.1; tangent-room = leb-true _ _ a.1 })

    module _ (left : Slices) (k : left ≡ scratch_left l time lent.scratch) (r : ℕ)
        (g : r ≡ late_number (is_some (world_from l left.places left.worlds i)) (is_some (palette_from l (node_row l.words l.header.graph.nodes i).skin left.places left.worlds)) fit) where
      places-are : left.places ≡ (scratch_left l time lent.scratch).places
      places-are = ap (λ (s : Slices). s.places) k

      slots-are : left.worlds ≡ (scratch_left l time lent.scratch).worlds
      slots-are = ap (λ (s : Slices). s.worlds) k

      late : r ≡ late_number (is_some (world_now l i time lent)) (is_some (palette_now l i time lent)) fit
      late =
          g
          ∙ (λ j. late_number (is_some (worlds-are l i time lent.scratch left.places left.worlds places-are slots-are i j))
          (is_some (palette-is l i time lent.scratch left.places left.worlds places-are slots-are is.node j)) fit)

      pub turned_down : (r ≡ 0 → ⊥) → (a : Answer) → a ≡ record { number = r; positions = 0; normals = 0; tangents = 0; taken = 0 }
          → Baked l i time (record { from = lent; to = record { scratch = left; output = lent.output } }) a
      turned_down d a h =
          said l i time lent _ _ a _ (λ j. record { scratch = k j; output = lent.output }) h
          (refused-late l i time lent mesh none-early is.at fit fits-is r late d)

      module _ (q : r ≡ 0) where
        trues : (is_some (world_now l i time lent) ≡ true) × (is_some (palette_now l i time lent) ≡ true) × (fit ≡ true)
        trues = none-late (is_some (world_now l i time lent)) (is_some (palette_now l i time lent)) fit (sym late ∙ q)

        pub fit-true : fit ≡ true
        fit-true = trues.2

        pub done : (t : ℕ) → t ≡ taken (scene_of l) → (p o v : List Float)
            → Delivered l i time left.marks left.places left.worlds lent.output.positions p lent.output.normals o lent.output.tangents v
            → Baked l i time (record { from = lent; to = record { scratch = left; output = record { positions = p; normals = o; tangents = v } } }) (record { number = 0; positions = n.positions; normals = n.normals; tangents = n.tangents; taken = t })
        done t c p o v d =
            there (world_now l i time lent) trues.0
            (λ w x. there (palette_now l i time lent) trues.1
            (λ u y.
            let out = d.result lent.scratch none-early is.node is.mesh (ap (λ (s : Slices). s.marks) k) places-are slots-are w u x y in
            let m = sizes w u in
            said l i time lent _ _ _ _ (λ j. record { scratch = k j; output = record { positions = p; normals = o; tangents = v } }) refl
            (accepted l i time lent mesh none-early is.at w u x y (fits-is w u ∙ trues.2) _
            (λ j. record {
              refusal = 0;
              positions = (ap (λ (s : Lengths). s.positions) e ∙ sym m.positions) j;
              normals = (ap (λ (s : Lengths). s.normals) e ∙ sym m.normals) j;
              tangents = (ap (λ (s : Lengths). s.tangents) e ∙ sym m.tangents) j;
              taken = c j;
            })
            _ (λ j. record { positions = out.positions j; normals = out.normals j; tangents = out.tangents j }))))
