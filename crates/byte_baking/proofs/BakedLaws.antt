-- A bake in floats whose outputs are written in bytes. Assumes nothing.
use mathlib.Core.Path.{◌≡◌, refl, sym, ◌∙◌}
use mathlib.Core.Bool.{false}
use mathlib.Core.List.{List, [], ◌++◌}
use mathlib.Core.Option.{Option, none, some}
use Prim.Native.Nat.{ℕ, zero, suc, ◌/◌, min}
use native.Mathlib.Omega.{arith}
use borrow.Author.Tests.{ne_eqb}
use lib.Dec.{eqb}
use lib.Ieee.{Float}
use lib.ListN.{length, take, drop}
use lib.Seq.{length-take-le}
use Rattle.model.specs.Lists.{pick, is_some}
use Rattle.model.specs.Scene.{Scene, Mesh, mesh_at}
use Rattle.model.specs.Refusals.{lowest, early_number}
use Rattle.model.specs.Bake as model
use Rattle.model.proofs.Numbers.{lowest-none}
use Rattle.model.proofs.Demand.{measured}
use Rattle.wire.specs.Bytes.{written_as}
use Rattle.tables.specs.Decoded.{Lent, scene_of}
use Rattle.checks.specs.Drawn.{tables_number}
use Rattle.bake_stages.specs.Scratch.{room_of, scratch_left}
use Rattle.bake.specs.declared.Answer.{Answer}
use Rattle.bake.specs.Baked.{Room, request_of, outcome, room_after, Baked}
use Rattle.byte_baking.specs.Output.{ByteOutput, with_floats, with_output, Fits}
use Rattle.byte_baking.specs.Baked.{request_in, outcome_in, is_reached, room_in, BakedIn}
use Rattle.byte_baking.proofs.OutputLaws.{whole, fits, start}

-- whether the scratch room is changed
reached : (g : ℕ) (s : Scene) (r : model.Request) (e : ℕ) (m : Option Mesh) → early_number g s r.time r.scratch ≡ e → mesh_at s r.node ≡ m
    → is_some (model.left_by g s r) ≡ eqb (lowest (lowest e 0) (pick (is_some m) 0 7)) 0
unfolding model.left_by
reached g s r zero none p q = cc
reached g s r zero (some m) p q = cc
reached g s r (suc e) m p q = (let f : is_some (model.left_by g s r) ≡ false = cc in f) ∙ sym (ne_eqb (suc e) 0 (λ z. omega (arith, z)))

-- the first floats of an output
abbrev pub first_of : ℕ → ℕ → ℕ → model.Output → model.Output
first_of p n t o = record { positions = take p o.positions; normals = take n o.normals; tangents = take t o.tangents }

-- and the whole output with them in their place
abbrev pub whole_of : ℕ → ℕ → ℕ → model.Output → model.Output → model.Output
whole_of p n t o left = record {
  positions = left.positions ++ drop p o.positions;
  normals = left.normals ++ drop n o.normals;
  tangents = left.tangents ++ drop t o.tangents;
}

pub record SameSizes (left o : model.Output) : Type 0 where
  pub positions : length left.positions ≡ length o.positions
  pub normals : length left.normals ≡ length o.normals
  pub tangents : length left.tangents ≡ length o.tangents

-- as much room as floats and bytes have
pub record Shared (p n t : ℕ) (r : Room) (o : ByteOutput) : Type 0 where
  pub positions : p ≡ min (length r.output.positions) (length o.positions / 4)
  pub normals : n ≡ min (length r.output.normals) (length o.normals / 4)
  pub tangents : t ≡ min (length r.output.tangents) (length o.tangents / 4)

module _ (l : Lent) (i : ℕ) (time : Float) (r : Room) (o : ByteOutput) (p n t : ℕ) (h : Shared p n t r o) (left : Room) (a : Answer) (b : Baked l i time (record { from = record { scratch = r.scratch; output = first_of p n t r.output }; to = left }) a) (k : SameSizes left.output (first_of p n t r.output)) where
  abbrev lent : Room
  lent = record { scratch = r.scratch; output = first_of p n t r.output }

  same-request : request_of i time lent ≡ request_in i time r o
  same-request =
      let x = length-take-le p r.output.positions (omega (arith, h.positions)) ∙ h.positions in
      let y = length-take-le n r.output.normals (omega (arith, h.normals)) ∙ h.normals in
      let z = length-take-le t r.output.tangents (omega (arith, h.tangents)) ∙ h.tangents in
      λ j. record { node = i; time = time; scratch = room_of r.scratch; position_room = x j; normal_room = y j; tangent_room = z j }

  same_outcome : outcome l i time lent ≡ outcome_in 0 l i time r o
  unfolding model.bake
  same_outcome =
      (λ j. model.baked_after (early_number (tables_number l) (scene_of l) time (room_of r.scratch)) (scene_of l) (same-request j))
      ∙ (λ j. model.baked_after (sym (lowest-none (early_number (tables_number l) (scene_of l) time (room_of r.scratch))) j) (scene_of l) (request_in i time r o))

  abbrev result : model.Output
  result = (outcome l i time lent).output

  output-is : left.output ≡ record { positions = model.written result.positions lent.output.positions; normals = model.written result.normals lent.output.normals; tangents = model.written result.tangents lent.output.tangents }
  unfolding room_after
  output-is = λ j. (b.room j).output

  position-count : a.positions ≡ length result.positions
  position-count = (λ j. (b.answer j).positions) ∙ (measured (tables_number l) (scene_of l) (request_of i time lent)).positions

  normal-count : a.normals ≡ length result.normals
  normal-count = (λ j. (b.answer j).normals) ∙ (measured (tables_number l) (scene_of l) (request_of i time lent)).normals

  tangent-count : a.tangents ≡ length result.tangents
  tangent-count = (λ j. (b.answer j).tangents) ∙ (measured (tables_number l) (scene_of l) (request_of i time lent)).tangents

  abbrev left' : model.Output
  left' = whole_of p n t r.output left.output

  pub position-fits : Fits a.positions left'.positions o.positions
  position-fits = fits r.output.positions left.output.positions o.positions p result.positions a.positions h.positions (λ j. (output-is j).positions) k.positions position-count

  pub normal-fits : Fits a.normals left'.normals o.normals
  normal-fits = fits r.output.normals left.output.normals o.normals n result.normals a.normals h.normals (λ j. (output-is j).normals) k.normals normal-count

  pub tangent-fits : Fits a.tangents left'.tangents o.tangents
  tangent-fits = fits r.output.tangents left.output.tangents o.tangents t result.tangents a.tangents h.tangents (λ j. (output-is j).tangents) k.tangents tangent-count

  scratch-is : left.scratch ≡ pick (is_reached 0 l i time r) (scratch_left l time r.scratch) r.scratch
  unfolding room_after
  scratch-is =
      (λ j. (b.room j).scratch)
      ∙ (λ j. pick (reached (tables_number l) (scene_of l) (request_of i time lent) _ _ refl refl j) (scratch_left l time r.scratch) r.scratch)

  whole-output : left' ≡ record { positions = model.written result.positions r.output.positions; normals = model.written result.normals r.output.normals; tangents = model.written result.tangents r.output.tangents }
  whole-output = λ j. record {
    positions = whole r.output.positions left.output.positions o.positions p result.positions a.positions h.positions (λ m. (output-is m).positions) k.positions position-count j;
    normals = whole r.output.normals left.output.normals o.normals n result.normals a.normals h.normals (λ m. (output-is m).normals) k.normals normal-count j;
    tangents = whole r.output.tangents left.output.tangents o.tangents t result.tangents a.tangents h.tangents (λ m. (output-is m).tangents) k.tangents tangent-count j;
  }

  starts : record { positions = take a.positions left'.positions; normals = take a.normals left'.normals; tangents = take a.tangents left'.tangents } ≡ result
  starts = λ j. record {
    positions = start r.output.positions left.output.positions o.positions p result.positions a.positions h.positions (λ m. (output-is m).positions) k.positions position-count j;
    normals = start r.output.normals left.output.normals o.normals n result.normals a.normals h.normals (λ m. (output-is m).normals) k.normals normal-count j;
    tangents = start r.output.tangents left.output.tangents o.tangents t result.tangents a.tangents h.tangents (λ m. (output-is m).tangents) k.tangents tangent-count j;
  }

  pub written_out : (bytes : ByteOutput)
      → bytes ≡ record { positions = with_floats (take a.positions left'.positions) o.positions; normals = with_floats (take a.normals left'.normals) o.normals; tangents = with_floats (take a.tangents left'.tangents) o.tangents }
      → BakedIn 0 l i time (record { from = r; to = record { scratch = left.scratch; output = left' } }) (record { from = o; to = bytes }) a
  unfolding room_in
  written_out bytes w = record {
    answer = b.answer ∙ (λ j. (same_outcome j).answer);
    room =
        (λ j. record { scratch = scratch-is j; output = whole-output j })
        ∙ (λ j. record {
          scratch = pick (is_reached 0 l i time r) (scratch_left l time r.scratch) r.scratch;
          output = record { positions = model.written (same_outcome j).output.positions r.output.positions; normals = model.written (same_outcome j).output.normals r.output.normals; tangents = model.written (same_outcome j).output.tangents r.output.tangents };
        });
    bytes = w ∙ (λ j. with_output (starts j) o) ∙ (λ j. with_output (same_outcome j).output o);
  }

-- no floats leave the bytes as they are
pub nothing-written : (bytes : List ℕ) → bytes ≡ with_floats [] bytes
unfolding written_as
nothing-written bytes = refl
