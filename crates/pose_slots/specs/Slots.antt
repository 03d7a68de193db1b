-- The pose of a node as the code holds it, and in lent slots: four words and ten floats a node. The weights are not
-- held: the fourth word names the channel that gives them. Definitions only.
use Rattle.std.specs.Prelude as rust
use Rattle.std.specs.Bool.{then_some}
use Rattle.std.specs.Prelude.{◌≡◌, Bool, true, false, List, [], ◌∷◌, ◌++◌, ℕ, ◌+◌, ◌*◌, ◌/◌, min, ltb, Float, length, get_or, take, replicate}
use Rattle.std.proofs.Math.Option.{Option, none, some}
use Rattle.std.proofs.Math.Seq.{paste}
use Rattle.float.specs.F32.{zero32}
use Rattle.borrowed.specs.Slices.{Words, Floats}
use Rattle.model.specs.Lists.{pick, part, row, is_some, or_else}
use Rattle.model.specs.Vector.{Vector, at}
use Rattle.model.specs.Pose.{Pose, at_rest}
use Rattle.scene.specs.Values.{vec3, quat}
use Rattle.tables.specs.Tags.{is_marked}
use Rattle.pose_slots.specs.declared.NodePose.{NodePose}

-- a value where its mark is on
abbrev pub when : Bool → Vector → Option Vector
when b v = pick b (some v) none

-- a value of the code as the vector that it says
abbrev pub posed : {A : Type 0} → (A → Vector) → rust.Option A → Option Vector
posed f (rust.Some x) = some (f x)
posed f rust.None = none

abbrev pub pose_of : NodePose → Pose
pose_of p = record {
  translation = posed vec3 p.translation;
  rotation = posed quat p.rotation;
  scale = posed vec3 p.scale;
  weights = none;
}

-- the pose of three marks and ten floats
abbrev pub holding : Bool → Bool → Bool → List Float → NodePose
holding t r s ten = record {
  translation = then_some t (record { x = at ten 0; y = at ten 1; z = at ten 2 });
  rotation = then_some r (record { x = at ten 3; y = at ten 4; z = at ten 5; w = at ten 6 });
  scale = then_some s (record { x = at ten 7; y = at ten 8; z = at ten 9 });
}

-- nothing is posed
abbrev pub resting_pose : NodePose
resting_pose = record { translation = rust.None; rotation = rust.None; scale = rust.None }

-- ---- slots

-- how many nodes the lent slots hold
abbrev pub room : List ℕ → List Float → ℕ
room marks slots = min (length marks / 4) (length slots / 10)

-- What four words and ten floats hold, and what they say. A mark that is lent above 1 means the same as 1.
abbrev pub slot_from : List ℕ → List Float → NodePose
slot_from four ten = holding (is_marked (get_or four 0 0)) (is_marked (get_or four 1 0)) (is_marked (get_or four 2 0)) ten

abbrev pub pose_from : List ℕ → List Float → Pose
pose_from four ten = record {
  translation = when (is_marked (get_or four 0 0)) (take 3 ten);
  rotation = when (is_marked (get_or four 1 0)) (part ten 3 4);
  scale = when (is_marked (get_or four 2 0)) (part ten 7 3);
  weights = none;
}

-- what slot i holds; past the slots the resting pose
unfoldable pub slot_pose : List ℕ → List Float → ℕ → NodePose
slot_pose marks slots i = pick (ltb i (room marks slots)) (slot_from (row 4 marks i) (row 10 slots i)) resting_pose

-- the pose of node i that its slot says; past the slots nothing is posed
unfoldable pub pose_in : List ℕ → List Float → ℕ → Pose
pose_in marks slots i = pick (ltb i (room marks slots)) (pose_from (row 4 marks i) (row 10 slots i)) at_rest

-- ---- what is put into a slot

abbrev pub mark_of : Bool → ℕ
mark_of true = 1
mark_of false = 0

-- the fourth word is given
abbrev pub words_of : Pose → ℕ → List ℕ
words_of p w = mark_of (is_some p.translation) ∷ mark_of (is_some p.rotation) ∷ mark_of (is_some p.scale) ∷ w ∷ []

-- zeros where nothing is posed
abbrev pub floats_of : Pose → List Float
floats_of p =
    or_else p.translation (replicate 3 zero32)
    ++ (or_else p.rotation (replicate 4 zero32) ++ or_else p.scale (replicate 3 zero32))

-- slot i of the slices that are borrowed, with a pose and its fourth word in place
abbrev pub Stored : ℕ → Pose → ℕ → Words → Floats → Type 0
Stored i p w marks slots =
    (marks.exit.now ≡ paste marks.entry.now (i * 4) (words_of p w) 4)
    × (slots.exit.now ≡ paste slots.entry.now (i * 10) (floats_of p) 10)
