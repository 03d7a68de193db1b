-- A bake in fields: what it is asked for, and what it is to answer and leave. Definitions only.
use Rattle.std.specs.Prelude.{◌≡◌, Bool, ◌&&◌, List, ◌++◌, ℕ, ◌+◌, ◌-◌, eqb, Float, length, get_or, take, replicate}
use Rattle.float.specs.F32.{f32, zero32}
use Rattle.float.specs.F64.{f64, zero64}
use Rattle.borrowed.specs.Slices.{Change}
use Rattle.model.specs.Bake as model
use Rattle.model.specs.Bake.{Output}
use Rattle.model.specs.Lists.{pick}
use Rattle.tables.specs.Decoded.{Lent}
use Rattle.bake.specs.Baked.{Room, answer_of, outcome, room_after}
use Rattle.bake.specs.declared.Answer.{Answer}
use Rattle.comparing.specs.declared.Agreement.{Agreement}
use Rattle.comparing.specs.Compared.{compared}
use Rattle.lists.specs.Fields.{ahead_of, behind_list, list_at, floats_at}
use Rattle.scene_lists.specs.declared.bakes.Asked.{Asked}
use Rattle.scene_lists.specs.declared.bakes.Outcome.{Outcome}

-- behind three lists of up to 96 floats
abbrev pub behind_outputs : List ℕ → ℕ → ℕ
behind_outputs fields at = behind_list fields (behind_list fields (behind_list fields at 96) 96) 96

-- how far a float may lie from the Rust's: 2^-19 where there is a Linear turn
abbrev pub allowed_of : ℕ → Float
allowed_of turns = pick (eqb turns 1) (f64 0x3ec0_0000_0000_0000) zero64

-- node, time, and what is allowed; there is a turn where it is between its keys
abbrev pub asked_at : List ℕ → ℕ → Asked
asked_at fields at = record {
  node = get_or fields at 0;
  time = f32 (get_or fields (at + 1) 0);
  most = allowed_of (get_or fields (at + 2) 0);
}

-- behind what is asked the list of the walk room, behind that the answer, and then the outputs as they are left
abbrev pub walk_at : List ℕ → ℕ → ℕ
walk_at fields at = ahead_of fields at 3

abbrev pub told_at : List ℕ → ℕ → ℕ
told_at fields at = behind_list fields (walk_at fields at) 64

abbrev pub left_at : List ℕ → ℕ → ℕ
left_at fields at = ahead_of fields (told_at fields at) 5

-- the answer that is right
abbrev pub answer_at : List ℕ → ℕ → Answer
answer_at fields at = record {
  number = get_or fields at 0;
  positions = get_or fields (at + 1) 0;
  normals = get_or fields (at + 2) 0;
  tangents = get_or fields (at + 3) 0;
  taken = get_or fields (at + 4) 0;
}

-- all five numbers
abbrev pub same_answer : Answer → Answer → Bool
same_answer a b =
    eqb a.number b.number && eqb a.positions b.positions && eqb a.normals b.normals
    && eqb a.tangents b.tangents && eqb a.taken b.taken

-- three outputs beside the three lists from a place on
abbrev pub outputs_compared : List Float → List Float → List Float → List ℕ → ℕ → Float → Agreement
outputs_compared positions normals tangents fields at most =
    let second = behind_list fields at 96 in
    let third = behind_list fields second 96 in
    compared (compared (compared (record { equal = 0; near = 0; differ = 0 })
    positions (list_at fields at) most) normals (list_at fields second) most) tangents (list_at fields third) most

-- three outputs as they are lent, of up to 96 floats
abbrev pub outputs_at : List ℕ → ℕ → Output
outputs_at fields at =
    let second = behind_list fields at 96 in
    record {
      positions = take 96 (floats_at fields at);
      normals = take 96 (floats_at fields second);
      tangents = take 96 (floats_at fields (behind_list fields second 96));
    }

-- what is lent: scratch room for eight nodes, and the outputs
abbrev pub room_for : List ℕ → Output → Room
room_for walk output = record {
  scratch = record {
    marks = replicate 32 0;
    slots = replicate 80 zero32;
    walk = walk;
    places = replicate 8 0;
    worlds = replicate 128 zero32;
  };
  output = output;
}

-- with the walk room of what is asked at a place, of up to 64 words
abbrev pub room_at : List ℕ → ℕ → Output → Room
room_at fields at output = room_for (take 64 (list_at fields (walk_at fields at))) output

abbrev pub output_of : List Float → List Float → List Float → Output
output_of positions normals tangents = record { positions = positions; normals = normals; tangents = tangents }

-- what a bake in that room answers and leaves
pub record Rerun (l : Lent) (asked : Asked) (walk : List ℕ) (o : Change Output) (a : Answer) : Type 0 where
  pub answer : answer_of a ≡ (outcome l asked.node asked.time (room_for walk o.from)).answer
  pub output : o.to ≡ (room_after l asked.node asked.time (room_for walk o.from)).output

-- the bake that is asked for at a place, and the outputs as it leaves them
abbrev pub outcome_at : Lent → List ℕ → ℕ → Output → model.Outcome
outcome_at l fields at lent = outcome l (asked_at fields at).node (asked_at fields at).time (room_at fields at lent)

abbrev pub output_left : Lent → List ℕ → ℕ → Output → Output
output_left l fields at lent =
    (room_after l (asked_at fields at).node (asked_at fields at).time (room_at fields at lent)).output

-- the answer of that bake, whether it is the right one, and how the outputs agree with those that are right
pub record Compares (l : Lent) (fields : List ℕ) (at : ℕ) (lent : Output) (answer : Answer) (told : Bool)
    (floats : Agreement) : Type 0 where
  pub answered : answer_of answer ≡ (outcome_at l fields at lent).answer
  pub right : told ≡ same_answer answer (answer_at fields (told_at fields at))
  pub agreed :
      let left = output_left l fields at lent in
      floats ≡ outputs_compared left.positions left.normals left.tangents fields (left_at fields at)
      (asked_at fields at).most

-- an array of 96 has these, and zeros behind them
abbrev pub Padded : List Float → List Float → Type 0
Padded xs array = array ≡ xs ++ replicate (96 - length xs) zero32

-- outputs are left as long as they were lent
pub record AsLong (lent left : Output) : Type 0 where
  pub positions : length left.positions ≡ length lent.positions
  pub normals : length left.normals ≡ length lent.normals
  pub tangents : length left.tangents ≡ length lent.tangents

-- the bake at a place: behind the outputs as they are lent stands what is asked
pub record Replayed (l : Lent) (fields : List ℕ) (at : ℕ) (o : Outcome) : Type 0 where
  pub compares : Compares l fields (behind_outputs fields at) (outputs_at fields at) o.answer o.told o.floats
  pub time : o.time ≡ (asked_at fields (behind_outputs fields at)).time
  pub as_long : AsLong (outputs_at fields at) (output_left l fields (behind_outputs fields at) (outputs_at fields at))
  pub positions : Padded (output_left l fields (behind_outputs fields at) (outputs_at fields at)).positions o.positions
  pub normals : Padded (output_left l fields (behind_outputs fields at) (outputs_at fields at)).normals o.normals
