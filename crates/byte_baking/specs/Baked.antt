-- A bake whose outputs are bytes: what it answers and leaves. Definitions only.
use Rattle.std.specs.Prelude.{◌≡◌, Bool, ℕ, ◌/◌, min, eqb, Float, length}
use Rattle.borrowed.specs.Slices.{Words, Floats, Change}
use Rattle.model.specs.Lists.{pick}
use Rattle.model.specs.Bake as model
use Rattle.tables.specs.Decoded.{Lent, scene_of}
use Rattle.worlds.specs.declared.Room as lent
use Rattle.bake_stages.specs.Scratch.{room_of, scratch_lent, scratch_left}
use Rattle.bake.specs.declared.Answer.{Answer}
use Rattle.bake.specs.Baked.{Room, output_room, answer_of}
use Rattle.byte_checks.specs.Numbers.{early_in, first_in}
use Rattle.byte_baking.specs.Output.{ByteOutput, with_output}

-- the room of a bake, with walk room and world slots lent as one, and each output by itself
abbrev pub room_over : Words → Floats → lent.Room → lent.Room → Floats → Floats → Floats → Change Room
room_over marks slots old new positions normals tangents =
    let scratch = scratch_lent marks slots old new in
    let output = output_room positions normals tangents in
    record {
      from = record { scratch = scratch.from; output = output.from };
      to = record { scratch = scratch.to; output = output.to };
    }

-- node i at a time; an output has as much room as both its floats and its bytes have
abbrev pub request_in : ℕ → Float → Room → ByteOutput → model.Request
request_in i time r o = record {
  node = i;
  time = time;
  scratch = room_of r.scratch;
  position_room = min (length r.output.positions) (length o.positions / 4);
  normal_room = min (length r.output.normals) (length o.normals / 4);
  tangent_room = min (length r.output.tangents) (length o.tangents / 4);
}

-- the bake of the model, after what the decoding room draws (0 or 6)
abbrev pub outcome_in : ℕ → Lent → ℕ → Float → Room → ByteOutput → model.Outcome
outcome_in drawn l i time r o =
    model.baked_after (early_in drawn l time (room_of r.scratch)) (scene_of l) (request_in i time r o)

-- whether the call gets past 7, and so changes the scratch room
abbrev pub is_reached : ℕ → Lent → ℕ → Float → Room → Bool
is_reached drawn l i time r = eqb (first_in drawn l i time (room_of r.scratch)) 0

-- each output starts with the result and is as lent past it; the scratch room is as an accepted call leaves it, or as
-- lent after 1 to 7
unfoldable pub room_in : ℕ → Lent → ℕ → Float → Room → ByteOutput → Room
room_in drawn l i time r o =
    let result = (outcome_in drawn l i time r o).output in
    record {
      scratch = pick (is_reached drawn l i time r) (scratch_left l time r.scratch) r.scratch;
      output = record {
        positions = model.written result.positions r.output.positions;
        normals = model.written result.normals r.output.normals;
        tangents = model.written result.tangents r.output.tangents;
      };
    }

pub record BakedIn (drawn : ℕ) (l : Lent) (i : ℕ) (time : Float) (c : Change Room) (o : Change ByteOutput)
    (a : Answer) : Type 0 where
  pub answer : answer_of a ≡ (outcome_in drawn l i time c.from o.from).answer
  pub room : c.to ≡ room_in drawn l i time c.from o.from
  pub bytes : o.to ≡ with_output (outcome_in drawn l i time c.from o.from).output o.from
