-- Which tests of a bake the lent room decides, and how. Assumes nothing.
use mathlib.Core.Path.{◌≡◌, refl, sym, ap, ◌∙◌}
use mathlib.Core.Bool.{Bool, true, false, not, ◌&&◌, ◌||◌}
use mathlib.Core.List.{List, map}
use mathlib.Core.Option.{Option, none, some}
use Prim.Native.Nat.{ℕ, ◌+◌}
use native.Mathlib.Omega.{arith}
use borrow.Author.Tests.{leb-true, le-ltb, le-leb}
use lib.Dec.{leb, eqb}
use lib.Ieee.{Float, is_nan}
use lib.ListN.{length}
use Rattle.model.specs.Lists.{pick, is_some, or_else}
use Rattle.model.specs.Matrix.{Matrix, identity}
use Rattle.model.specs.Scene.{Mesh, node_count, node_at, mesh_at, skeleton_at}
use Rattle.model.specs.Placing.{child_entries}
use Rattle.model.specs.World.{poses_of, pose_at, worlds, world_at}
use Rattle.model.specs.Skin.{blend_weights}
use Rattle.model.specs.Refusals.{first_of, some_keys_out_of_line, scratch_is_short}
use Rattle.model.specs.Bake.{Output, Request, baked_primitive, output_of, palette_with, fits}
use Rattle.model.proofs.Tests.{both}
use Rattle.tables.specs.Decoded.{Lent, scene_of}
use Rattle.checks.specs.Drawn.{tables_number}
use Rattle.worlds.proofs.Delivering as placed
use Rattle.theorems.specs.BakeTests.{world_for, palette_for, no_mesh, result_for, bake_tests}
use Rattle.theorems.proofs.Baking.{bake-judges}
use Rattle.bake_stages.specs.Scratch.{room_of}
use Rattle.bake.specs.Baked as bake
use Rattle.bake.proofs.TablesRange.{tables-at-most-2}
use Rattle.bake.proofs.Meshed.{mesh_row_of, measured}
use Rattle.bake_room.specs.declared.Room.{Room}
use Rattle.bake_room.specs.Needed.{room_in}
use Rattle.bake_room.specs.Lengths.{EnoughScratch, EnoughOutput, ShortScratch, SomeShort, number_with}
use Rattle.bake_room.specs.Lengths.{short_marks, short_slots, short_walk, short_places, short_worlds}
use Rattle.bake_room.specs.Lengths.{short_positions, short_normals, short_tangents}
use Rattle.bake_room.proofs.Needed.{mesh, is, draw, lengths}

-- ---- the number of the first test that applies

unfoldable pub first_test : Bool → Bool → Bool → Bool → Bool → Bool → Bool → Bool → Bool → ℕ
first_test table limit time keys scratch node world palette output =
    pick table 1 (pick limit 2 (pick time 3 (pick keys 5 (pick scratch 6 (pick node 7 (pick world 8 (pick palette 9
    (pick output 10 0))))))))

module _ (l : Lent) (i : ℕ) (time : Float) where
  abbrev worlds_now : List (Option Matrix)
  worlds_now = worlds (poses_of time (scene_of l)) (scene_of l)

  -- by whether the scratch room is short, and whether an output is: no other test asks for the room
  abbrev pub number_by : Bool → Bool → ℕ
  number_by scratch output =
      let s = scene_of l in
      first_test (eqb (tables_number l) 1) (eqb (tables_number l) 2) (is_nan time) (some_keys_out_of_line s) scratch
      (not (is_some (mesh_at s i))) (not (is_some (world_at worlds_now i)))
      (not (is_some (palette_with (world_at worlds_now) (is_some (node_at s i).skin) (skeleton_at s i)))) output

  -- the room that is told where the tables draw nothing, and there is a mesh
  abbrev told : Room
  told = room_in (scene_of l) (mesh l i)

  module _ (r : bake.Room) where
    abbrev request : Request
    request = bake.request_of i time r

    abbrev pub scratch_test : Bool
    scratch_test = scratch_is_short (scene_of l) (room_of r.scratch)

    abbrev pub output_test : Bool
    output_test = not (fits request (result_for (scene_of l) request))

    pub number_is : number_with l i time r ≡ number_by scratch_test output_test
    unfolding bake_tests first_of first_test
    number_is = (bake-judges (scene_of l) request (tables_number l) (tables-at-most-2 l)).first

    -- ---- the scratch room

    pub scratch-long : EnoughScratch told r.scratch → scratch_test ≡ false
    scratch-long e =
        let s = scene_of l in
        let room = room_of r.scratch in
        let walk = le-ltb room.walk_room (length s.roots + child_entries s) (omega (arith, e.walk)) in
        let poses = le-ltb room.pose_slots (node_count s) (omega (arith, e.marks, e.slots)) in
        let slots = le-ltb room.world_slots (node_count s) (omega (arith, e.places, e.worlds)) in
        (λ j. walk j || poses j || slots j)

    too_short : ShortScratch told r.scratch → scratch_test ≡ false → ⊥
    too_short (short_marks h) e = omega (arith, h, (placed.enough (scene_of l) (room_of r.scratch) e).1)
    too_short (short_slots h) e = omega (arith, h, (placed.enough (scene_of l) (room_of r.scratch) e).1)
    too_short (short_walk h) e = omega (arith, h, (placed.enough (scene_of l) (room_of r.scratch) e).0)
    too_short (short_places h) e = omega (arith, h, (placed.enough (scene_of l) (room_of r.scratch) e).2)
    too_short (short_worlds h) e = omega (arith, h, (placed.enough (scene_of l) (room_of r.scratch) e).2)

    pub scratch-short : ShortScratch told r.scratch → scratch_test ≡ true
    scratch-short h = go scratch_test refl
      where
        go : (b : Bool) → scratch_test ≡ b → b ≡ true
        go true e = refl
        go false e = absurd (too_short h e)

    -- ---- the outputs

    abbrev made : Output
    made = result_for (scene_of l) request

    module _ (z : tables_number l ≡ 0) (m : is_some (mesh_at (scene_of l) i) ≡ true) where
      -- the result of a mesh, if there is one
      abbrev result : Option Mesh → Output
      result x =
          let s = scene_of l in
          let y = or_else x no_mesh in
          let weights = blend_weights (pose_at (poses_of time s) i).weights (node_at s i).weights y in
          let palette = or_else (palette_for s request) none in
          output_of (map (baked_primitive (or_else (world_for s request i) identity) palette weights) y.primitives)

      -- it is as long as told
      record Sized : Type 0 where
        positions : length made.positions ≡ told.positions
        normals : length made.normals ≡ told.normals
        tangents : length made.tangents ≡ told.tangents

      sized : Sized
      sized =
          let e : made ≡ result (some (mesh l i)) = ap result (is l i z m).at in
          let n = measured l (mesh_row_of l i).primitives (draw l i z m) _ _ _ in
          let s = lengths l i z m in
          record {
            positions = ap (λ (o : Output). length o.positions) e ∙ n.positions ∙ sym (λ j. (s j).positions);
            normals = ap (λ (o : Output). length o.normals) e ∙ n.normals ∙ sym (λ j. (s j).normals);
            tangents = ap (λ (o : Output). length o.tangents) e ∙ n.tangents ∙ sym (λ j. (s j).tangents);
          }

      pub output-long : EnoughOutput told r.output → output_test ≡ false
      output-long e =
          let o = made in
          let p = r.output in
          let s = sized in
          let a = le-leb (length o.positions) (length p.positions) (omega (arith, e.positions, s.positions)) in
          let b = le-leb (length o.normals) (length p.normals) (omega (arith, e.normals, s.normals)) in
          let c = le-leb (length o.tangents) (length p.tangents) (omega (arith, e.tangents, s.tangents)) in
          (λ j. not (a j && b j && c j))

      fitting : fits request made ≡ true → EnoughOutput told r.output
      fitting h =
          let o = made in
          let p = r.output in
          let s = sized in
          let b = leb (length o.positions) (length p.positions) in
          let c = leb (length o.normals) (length p.normals) in
          let d = both (b && c) (leb (length o.tangents) (length p.tangents)) h in
          let e = both b c d.0 in
          let x = leb-true (length o.positions) (length p.positions) e.0 in
          let y = leb-true (length o.normals) (length p.normals) e.1 in
          let w = leb-true (length o.tangents) (length p.tangents) d.1 in
          record {
            positions = omega (arith, x, s.positions);
            normals = omega (arith, y, s.normals);
            tangents = omega (arith, w, s.tangents);
          }

      too_few : SomeShort told r.output → EnoughOutput told r.output → ⊥
      too_few (short_positions h) e = omega (arith, h, e.positions)
      too_few (short_normals h) e = omega (arith, h, e.normals)
      too_few (short_tangents h) e = omega (arith, h, e.tangents)

      pub output-short : SomeShort told r.output → output_test ≡ true
      output-short h = go (fits request made) refl
        where
          go : (b : Bool) → fits request made ≡ b → not b ≡ true
          go true e = absurd (too_few h (fitting e))
          go false e = refl
