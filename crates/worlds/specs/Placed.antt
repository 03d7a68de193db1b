-- What `posed_node_transforms` answers and leaves, from a pose that is given: scope, "Placed pieces" and "Numbers when
-- a piece is turned down". Definitions only.
use Rattle.std.specs.Prelude.{◌≡◌, List, ◌++◌, ℕ, ◌*◌, ◌/◌, min, eqb, Float, length, drop, replicate, Result, Ok, Err}
use Rattle.std.proofs.Math.Option.{none}
use Rattle.borrowed.specs.Slices.{Change}
use Rattle.model.specs.Lists.{pick, tabulate}
use Rattle.model.specs.Matrix.{Matrix}
use Rattle.model.specs.Scene.{Scene, node_count}
use Rattle.model.specs.Pose.{Pose}
use Rattle.model.specs.Placing.{order, places, taken}
use Rattle.model.specs.World.{worlds_from, worlds}
use Rattle.model.specs.Refusals.{Scratch, place_number}
use Rattle.refusals.specs.declared.Refusal.{Refusal}
use Rattle.refusals.specs.Drawn.{number_of}
use Rattle.tables.specs.Decoded.{Lent, scene_of}
use Rattle.tables.specs.Codes.{codes_of}
use Rattle.checks.specs.Drawn.{tables_number}
use Rattle.pose_slots.specs.Slots.{room, pose_in}
use Rattle.worlds.specs.declared.Answer.{Answer}
use Rattle.worlds.specs.Slots.{slots_of}

-- the lent room: two words an entry of the walk, four words and ten floats a pose slot, a word and sixteen floats a
-- world slot
abbrev pub scratch_of : List ℕ → List ℕ → List Float → List ℕ → List Float → Scratch
scratch_of walk marks slots codes floats =
    record {
      walk_room = length walk / 2;
      pose_slots = room marks slots;
      world_slots = min (length codes) (length floats / 16);
    }

abbrev pub place_number_for : Lent → Scratch → ℕ
place_number_for l scratch = place_number (tables_number l) (scene_of l) scratch

-- the pose of each of n nodes, as the slots say it
abbrev pub poses_in : List ℕ → List Float → ℕ → List Pose
poses_in marks slots n = tabulate n (pose_in marks slots)

-- What an accepted run leaves for a listing and its local matrices: nothing waits in the walk room, every node has the
-- code of its place and its world, and past the nodes the slots are as lent.
pub record Run (s : Scene) (local : ℕ → Matrix) (walk_room code_slots : Change (List ℕ))
    (world_slots : Change (List Float)) (taken' : ℕ) : Type 0 where
  pub walk : walk_room.to ≡ replicate (length walk_room.from) 0
  pub codes : code_slots.to ≡ codes_of (places s) ++ drop (node_count s) code_slots.from
  pub floats :
      world_slots.to
      ≡ slots_of (worlds_from local (replicate (node_count s) none) (order s))
      ++ drop (node_count s * 16) world_slots.from
  pub entries : taken' ≡ taken s

-- what a C function answers
abbrev pub answer_of : Result ℕ Refusal → Answer
answer_of (Ok taken') = record { number = 0; taken = taken' }
answer_of (Err r) = record { number = number_of r; taken = 0 }

-- The number, and the entries taken or 0; refused, nothing is changed.
pub record NodesPlaced (l : Lent) (marks : List ℕ) (slots : List Float) (walk_room code_slots : Change (List ℕ))
    (world_slots : Change (List Float)) (a : Answer) : Type 0 where
  pub number :
      a.number ≡ place_number_for l (scratch_of walk_room.from marks slots code_slots.from world_slots.from)
  pub entries : a.taken ≡ pick (eqb a.number 0) (taken (scene_of l)) 0
  pub walk :
      walk_room.to ≡ pick (eqb a.number 0) (replicate (length walk_room.from) 0) walk_room.from
  pub codes :
      code_slots.to
      ≡ pick (eqb a.number 0) (codes_of (places (scene_of l)) ++ drop (node_count (scene_of l)) code_slots.from)
      code_slots.from
  pub floats :
      world_slots.to
      ≡ pick (eqb a.number 0)
      (slots_of (worlds (poses_in marks slots (node_count (scene_of l))) (scene_of l))
      ++ drop (node_count (scene_of l) * 16) world_slots.from)
      world_slots.from

-- of slices as lent and as left
abbrev pub Placed : Lent → List ℕ → List Float → List ℕ → List ℕ → List ℕ → List ℕ → List Float → List Float → Answer
    → Type 0
Placed l marks slots lent_walk left_walk lent_codes left_codes lent_floats left_floats a =
    NodesPlaced l marks slots (record { from = lent_walk; to = left_walk })
    (record { from = lent_codes; to = left_codes })
    (record { from = lent_floats; to = left_floats }) a
