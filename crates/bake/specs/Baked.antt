-- What `world_mesh_at` answers and leaves: the bake of the model, in lent room. Definitions only.
use Rattle.std.specs.Prelude.{◌≡◌, List, ℕ, Float, length, Result, Ok, Err}
use Rattle.borrowed.specs.Slices.{Words, Floats}
use Rattle.borrowed.specs.Slices as borrowed
use Rattle.borrowed.specs.declared.Vertices.{Vertices}
use Rattle.model.specs.Lists.{pick, is_some}
use Rattle.model.specs.Bake as model
use Rattle.tables.specs.Decoded.{Lent, scene_of}
use Rattle.checks.specs.Drawn.{tables_number}
use Rattle.worlds.specs.declared.Room as lent
use Rattle.bake_stages.specs.Scratch.{Slices, scratch_room, slices_in, room_of, scratch_left}
use Rattle.refusals.specs.declared.Refusal.{Refusal}
use Rattle.refusals.specs.Drawn.{number_of}
use Rattle.bake.specs.declared.Put.{Put}
use Rattle.bake.specs.declared.Answer.{Answer}

-- the scratch room and the three outputs (the scope's bench and sheets)
pub record Room : Type 0 where
  pub scratch : Slices
  pub output : model.Output

-- as a call that borrows it finds it, and as it leaves it
abbrev pub Change : Type 0
Change = borrowed.Change Room

abbrev pub output_room : Floats → Floats → Floats → borrowed.Change model.Output
output_room positions normals tangents = record {
  from = record {
    positions = positions.entry.now;
    normals = normals.entry.now;
    tangents = tangents.entry.now;
  };
  to = record {
    positions = positions.exit.now;
    normals = normals.exit.now;
    tangents = tangents.exit.now;
  };
}

abbrev pub room : Words → Floats → Words → Words → Floats → Floats → Floats → Floats → Change
room marks slots walk places worlds positions normals tangents =
    let scratch = scratch_room marks slots walk places worlds in
    let output = output_room positions normals tangents in
    record {
      from = record { scratch = scratch.from; output = output.from };
      to = record { scratch = scratch.to; output = output.to };
    }

-- the same where walk room and world slots, and the outputs, are lent as one each
abbrev pub room_in : List ℕ → List Float → lent.Room → Vertices → Room
room_in marks slots scratch out = record {
  scratch = slices_in marks slots scratch;
  output = record { positions = out.positions.now; normals = out.normals.now; tangents = out.tangents.now };
}

abbrev pub room_lent : Words → Floats → lent.Room → lent.Room → Vertices → Vertices → Change
room_lent marks slots old new lent left = record {
  from = room_in marks.entry.now slots.entry.now old lent;
  to = room_in marks.exit.now slots.exit.now new left;
}

-- node i at a time, with as much room
abbrev pub request_of : ℕ → Float → Room → model.Request
request_of i time r = record {
  node = i;
  time = time;
  scratch = room_of r.scratch;
  position_room = length r.output.positions;
  normal_room = length r.output.normals;
  tangent_room = length r.output.tangents;
}

abbrev pub outcome : Lent → ℕ → Float → Room → model.Outcome
outcome l i time lent = model.bake (tables_number l) (scene_of l) (request_of i time lent)

abbrev pub answer_of : Answer → model.Answer
answer_of a = record {
  refusal = a.number;
  positions = a.positions;
  normals = a.normals;
  tangents = a.tangents;
  taken = a.taken;
}

-- what a C function answers
abbrev pub told_by : Result Put Refusal → Answer
told_by (Ok p) = record {
  number = 0;
  positions = p.lengths.positions;
  normals = p.lengths.normals;
  tangents = p.lengths.tangents;
  taken = p.taken;
}
told_by (Err r) = record { number = number_of r; positions = 0; normals = 0; tangents = 0; taken = 0 }

-- each output starts with the result and is as lent past it, and refused as lent; the scratch room is as an accepted
-- call leaves it, or as lent after 1 to 7
unfoldable pub room_after : Lent → ℕ → Float → Room → Room
room_after l i time lent =
    let o = (outcome l i time lent).output in
    record {
      scratch =
          pick (is_some (model.left_by (tables_number l) (scene_of l) (request_of i time lent)))
          (scratch_left l time lent.scratch) lent.scratch;
      output = record {
        positions = model.written o.positions lent.output.positions;
        normals = model.written o.normals lent.output.normals;
        tangents = model.written o.tangents lent.output.tangents;
      };
    }

pub record Baked (l : Lent) (i : ℕ) (time : Float) (c : Change) (a : Answer) : Type 0 where
  pub answer : answer_of a ≡ (outcome l i time c.from).answer
  pub room : c.to ≡ room_after l i time c.from
