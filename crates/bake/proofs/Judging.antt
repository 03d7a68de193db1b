-- The bake of the model, refused or accepted, and the room that it leaves. Assumes nothing.
use mathlib.Core.Path.{◌≡◌, refl, sym, ap, ◌∙◌}
use mathlib.Core.Bool.{Bool, true, false}
use mathlib.Core.List.{List, map}
use mathlib.Core.Option.{Option, none, some}
use Prim.Native.Nat.{ℕ, zero, suc}
use lib.Ieee.{Float}
use lib.ListN.{length}
use Rattle.model.specs.Lists.{pick, is_some}
use Rattle.model.specs.Matrix.{Matrix}
use Rattle.model.specs.Scene.{Scene, Mesh, node_at, mesh_at, skeleton_at}
use Rattle.model.specs.Placing.{taken}
use Rattle.model.specs.World.{poses_of, pose_at, worlds, world_at}
use Rattle.model.specs.Skin.{blend_weights}
use Rattle.model.specs.Refusals.{lowest, early_number}
use Rattle.model.specs.Bake as model
use Rattle.tables.specs.Decoded.{Lent, scene_of}
use Rattle.checks.specs.Drawn.{tables_number}
use Rattle.bake_stages.specs.Numbers.{late_number}
use Rattle.bake_stages.specs.Scratch.{room_of, scratch_left}
use Rattle.bake.specs.declared.Answer.{Answer}
use Rattle.bake.specs.Baked.{Room, request_of, outcome, answer_of, room_after, Baked}

-- ---- a node with a mesh, judged
module _ (r : model.Request) (t : ℕ) (posed own : Option (List Float)) (x : Mesh) where
  abbrev result : Matrix → Option (List Matrix) → model.Output
  result w p = model.output_of (map (model.baked_primitive w p (blend_weights posed own x)) x.primitives)

  judged-late : (world : Option Matrix) (palette : Option (Option (List Matrix))) (fit : Bool)
      → ((w : Matrix) (p : Option (List Matrix)) → model.fits r (result w p) ≡ fit)
      → (n : ℕ) → n ≡ late_number (is_some world) (is_some palette) fit → (n ≡ 0 → ⊥) → model.judged r t posed own (some x) world palette ≡ model.refused n
  unfolding model.judged model.delivered
  judged-late none palette fit f n e d = ap model.refused (sym e)
  judged-late (some w) none fit f n e d = ap model.refused (sym e)
  judged-late (some w) (some p) false f n e d =
      ap (λ (b : Bool). pick b (record { answer = record { refusal = 0; positions = length (result w p).positions; normals = length (result w p).normals; tangents = length (result w p).tangents; taken = t }; output = result w p }) (model.refused 10)) (f w p)
      ∙ ap model.refused (sym e)
  judged-late (some w) (some p) true f n e d = absurd (d e)

  judged-done : (w : Matrix) (p : Option (List Matrix)) → model.fits r (result w p) ≡ true
      → model.judged r t posed own (some x) (some w) (some p)
      ≡ record { answer = record { refusal = 0; positions = length (result w p).positions; normals = length (result w p).normals; tangents = length (result w p).tangents; taken = t }; output = result w p }
  unfolding model.judged model.delivered
  judged-done w p f =
      ap (λ (b : Bool). pick b (record { answer = record { refusal = 0; positions = length (result w p).positions; normals = length (result w p).normals; tangents = length (result w p).tangents; taken = t }; output = result w p }) (model.refused 10)) f

module _ (l : Lent) (i : ℕ) (time : Float) (lent : Room) where
  abbrev scene : Scene
  scene = scene_of l

  abbrev early : ℕ
  early = early_number (tables_number l) scene time (room_of lent.scratch)

  abbrev worlds_now : List (Option Matrix)
  worlds_now = worlds (poses_of time scene) scene

  abbrev pub world_now : Option Matrix
  world_now = world_at worlds_now i

  abbrev pub palette_now : Option (Option (List Matrix))
  palette_now = model.palette_with (world_at worlds_now) (is_some (node_at scene i).skin) (skeleton_at scene i)

  abbrev pub posed_now : Option (List Float)
  posed_now = (pose_at (poses_of time scene) i).weights

  abbrev pub own_now : Option (List Float)
  own_now = (node_at scene i).weights

  -- as far as 7
  abbrev after_first : ℕ → Option Mesh → model.Outcome
  after_first zero none = model.refused 7
  after_first zero (some x) = model.judged (request_of i time lent) (taken scene) posed_now own_now (some x) world_now palette_now
  after_first (suc g) m = model.refused (suc g)

  first : (g : ℕ) (m : Option Mesh) → early ≡ g → mesh_at scene i ≡ m → outcome l i time lent ≡ after_first g m
  unfolding model.bake model.baked_after model.baked_from model.judged
  first zero none e f =
      (λ j. model.baked_after (e j) scene (request_of i time lent)) ∙ (λ j. model.judged (request_of i time lent) (taken scene) posed_now own_now (f j) world_now palette_now)
  first zero (some x) e f =
      (λ j. model.baked_after (e j) scene (request_of i time lent)) ∙ (λ j. model.judged (request_of i time lent) (taken scene) posed_now own_now (f j) world_now palette_now)
  first (suc g) m e f = λ j. model.baked_after (e j) scene (request_of i time lent)

  abbrev keeps : ℕ → Option Mesh → Bool
  keeps zero none = false
  keeps zero (some x) = true
  keeps (suc g) m = false

  left_by : (g : ℕ) (m : Option Mesh) → early ≡ g → mesh_at scene i ≡ m → is_some (model.left_by (tables_number l) scene (request_of i time lent)) ≡ keeps g m
  unfolding model.left_by
  left_by zero none e f = cc
  left_by zero (some x) e f = cc
  left_by (suc g) m e f = cc

  abbrev pub refusal : ℕ → Answer
  refusal n = record { number = n; positions = 0; normals = 0; tangents = 0; taken = 0 }

  refused_as : (n : ℕ) (b : Bool) → outcome l i time lent ≡ model.refused n → is_some (model.left_by (tables_number l) scene (request_of i time lent)) ≡ b
      → Baked l i time (record { from = lent; to = record { scratch = pick b (scratch_left l time lent.scratch) lent.scratch; output = lent.output } }) (refusal n)
  unfolding room_after
  refused_as n b o k = record {
    answer = sym (λ j. (o j).answer);
    room = sym (λ j. record {
      scratch = pick (k j) (scratch_left l time lent.scratch) lent.scratch;
      output = record {
        positions = model.written (o j).output.positions lent.output.positions;
        normals = model.written (o j).output.normals lent.output.normals;
        tangents = model.written (o j).output.tangents lent.output.tangents;
      };
    });
  }

  -- 1 to 7: nothing is changed
  pub refused-first : (n : ℕ) → n ≡ lowest early (pick (is_some (mesh_at scene i)) 0 7) → (n ≡ 0 → ⊥) → Baked l i time (record { from = lent; to = lent }) (refusal n)
  refused-first n e d = go early (mesh_at scene i) refl refl
    where
      go : (g : ℕ) (m : Option Mesh) → early ≡ g → mesh_at scene i ≡ m → Baked l i time (record { from = lent; to = lent }) (refusal n)
      go zero none p q =
          let s : n ≡ 7 = e ∙ (λ j. lowest (p j) (pick (is_some (q j)) 0 7)) in
          refused_as n false (first zero none p q ∙ ap model.refused (sym s)) (left_by zero none p q)
      go zero (some x) p q = absurd (d (e ∙ (λ j. lowest (p j) (pick (is_some (q j)) 0 7))))
      go (suc g) m p q =
          let s : n ≡ suc g = e ∙ (λ j. lowest (p j) (pick (is_some (mesh_at scene i)) 0 7)) in
          refused_as n false (first (suc g) m p q ∙ ap model.refused (sym s)) (left_by (suc g) m p q)

  module _ (x : Mesh) (p : early ≡ 0) (q : mesh_at scene i ≡ some x) where
    abbrev pub result_now : Matrix → Option (List Matrix) → model.Output
    result_now w o = result (request_of i time lent) (taken scene) posed_now own_now x w o

    -- 8 to 10: the scratch room as an accepted call leaves it
    pub refused-late : (fit : Bool) → ((w : Matrix) (o : Option (List Matrix)) → model.fits (request_of i time lent) (result_now w o) ≡ fit)
        → (n : ℕ) → n ≡ late_number (is_some world_now) (is_some palette_now) fit → (n ≡ 0 → ⊥)
        → Baked l i time (record { from = lent; to = record { scratch = scratch_left l time lent.scratch; output = lent.output } }) (refusal n)
    refused-late fit f n e d =
        refused_as n true
        (first zero (some x) p q ∙ judged-late (request_of i time lent) (taken scene) posed_now own_now x world_now palette_now fit f n e d)
        (left_by zero (some x) p q)

    pub accepted : (w : Matrix) (o : Option (List Matrix)) → world_now ≡ some w → palette_now ≡ some o → model.fits (request_of i time lent) (result_now w o) ≡ true
        → (a : Answer) → answer_of a ≡ record { refusal = 0; positions = length (result_now w o).positions; normals = length (result_now w o).normals; tangents = length (result_now w o).tangents; taken = taken scene }
        → (left : model.Output) → left ≡ record { positions = model.written (result_now w o).positions lent.output.positions; normals = model.written (result_now w o).normals lent.output.normals; tangents = model.written (result_now w o).tangents lent.output.tangents }
        → Baked l i time (record { from = lent; to = record { scratch = scratch_left l time lent.scratch; output = left } }) a
    unfolding room_after
    accepted w o g h f a e left c =
        let k = left_by zero (some x) p q in
        let done = first zero (some x) p q
        ∙ (λ j. model.judged (request_of i time lent) (taken scene) posed_now own_now (some x) (g j) (h j))
        ∙ judged-done (request_of i time lent) (taken scene) posed_now own_now x w o f in
        record {
          answer = e ∙ sym (λ j. (done j).answer);
          room =
              (λ j. record { scratch = scratch_left l time lent.scratch; output = c j })
              ∙ sym (λ j. record {
                scratch = pick (k j) (scratch_left l time lent.scratch) lent.scratch;
                output = record {
                  positions = model.written (done j).output.positions lent.output.positions;
                  normals = model.written (done j).output.normals lent.output.normals;
                  tangents = model.written (done j).output.tangents lent.output.tangents;
                };
              });
        }
