-- A slot read, a slot that is not there, and what is put into one. Assumes nothing.
use mathlib.Core.Path.{◌≡◌, refl, sym, ap, ◌∙◌}
use mathlib.Core.Bool.{Bool, true, false}
use mathlib.Core.List.{List}
use mathlib.Core.Option.{none}
use Rattle.std.specs.Prelude as rust
use Rattle.std.specs.Bool.{then_some}
use Rattle.std.specs.Int.{from_bool}
use Rattle.std.specs.Option as opt
use Prim.Native.Nat.{ℕ, ◌+◌, ◌-◌, ◌*◌, ◌/◌, ◌≤◌, ◌<◌}
use native.Mathlib.Numerals.{add-one}
use native.Mathlib.Omega.{arith}
use borrow.Author.Tests.{lt-ltb, le-ltb, ltb-true}
use lib.Dec.{ltb}
use lib.Ieee.{Float, nan}
use lib.ListN.{length, get_or, set, take, drop, length-drop}
use lib.Seq.{paste, paste-suc, length-take-le}
use Rattle.model.specs.Lists.{pick, row, is_some}
use Rattle.model.specs.Vector.{Vector, at}
use Rattle.model.specs.Pose.{Pose, at_rest}
use Rattle.model.proofs.ListLaws.{entries_from, by_entries}
use Rattle.pose_slots.specs.declared.NodePose.{NodePose}
use Rattle.scene.specs.Values.{vec3, quat}
use Rattle.tables.specs.Tags.{is_marked}
use Rattle.pose_slots.specs.Slots.{when, posed, mark_of, pose_of, resting_pose, room, slot_from, pose_from, slot_pose, pose_in}

-- a value with its mark, as it is held and as it is told
told-held : {A : Type 0} (f : A → Vector) (b : Bool) (x : A) → posed f (then_some b x) ≡ when b (f x)
told-held f true x = refl
told-held f false x = refl

-- what four words and ten floats hold is what they say
said : (four : List ℕ) (ten : List Float) → length ten ≡ 10 → pose_of (slot_from four ten) ≡ pose_from four ten
unfolding entries_from
said four ten h =
    let there : ℕ → Bool = λ k. is_marked (get_or four k 0) in
    (λ j. record {
      translation = told-held vec3 (there 0) (record { x = at ten 0; y = at ten 1; z = at ten 2 }) j;
      rotation = told-held quat (there 1) (record { x = at ten 3; y = at ten 4; z = at ten 5; w = at ten 6 }) j;
      scale = told-held vec3 (there 2) (record { x = at ten 7; y = at ten 8; z = at ten 9 }) j;
      weights = none;
    })
    ∙ sym (ap (pose_from four) (by_entries nan ten 10 h))

module _ (marks : List ℕ) (slots : List Float) (i : ℕ) where
  abbrev held : Bool → NodePose
  held b = pick b (slot_from (row 4 marks i) (row 10 slots i)) resting_pose

  abbrev told : Bool → Pose
  told b = pick b (pose_from (row 4 marks i) (row 10 slots i)) at_rest

  pub in-room : i < room marks slots → pose_from (row 4 marks i) (row 10 slots i) ≡ pose_in marks slots i
  unfolding pose_in
  in-room h = ap told (sym (lt-ltb i (room marks slots) h))

  pub past_room : room marks slots ≤ i → resting_pose ≡ slot_pose marks slots i
  unfolding slot_pose
  past_room h = ap held (sym (le-ltb i (room marks slots) h))

  -- as the code cuts the slices
  pub cut-in-room : i < length marks / 4 → i < length slots / 10
      → slot_from (take (i * 4 + 4 - i * 4) (drop (i * 4) marks)) (take (i * 10 + 10 - i * 10) (drop (i * 10) slots))
      ≡ slot_pose marks slots i
  unfolding slot_pose
  cut-in-room h k =
      let a : i * 4 + 4 - i * 4 ≡ 4 = omega arith in
      let b : i * 10 + 10 - i * 10 ≡ 10 = omega arith in
      (λ j. slot_from (take (a j) (drop (i * 4) marks)) (take (b j) (drop (i * 10) slots)))
      ∙ ap held (sym (lt-ltb i (room marks slots) (omega arith)))

  -- what a slot holds is what it says
  pub slot-pose : pose_of (slot_pose marks slots i) ≡ pose_in marks slots i
  unfolding slot_pose pose_in
  slot-pose = go (ltb i (room marks slots)) refl
    where
      go : (b : Bool) → ltb i (room marks slots) ≡ b → pose_of (held b) ≡ told b
      go true h =
          let rest = drop (i * 10) slots in
          let enough : 10 ≤ length rest = omega (arith, length-drop (i * 10) slots, ltb-true i (room marks slots) h) in
          said (row 4 marks i) (row 10 slots i) (length-take-le 10 rest enough)
      go false h = refl

-- ---- what is put

pub is-there : {A : Type 0} (f : A → Vector) (o : rust.Option A) → from_bool (opt.is_some o) ≡ mark_of (is_some (posed f o))
is-there f (rust.Some x) = refl
is-there f rust.None = refl

-- one entry more of a list that is put
pub one_more : {A : Type 0} (lent s : List A) (at : ℕ) (v : List A) (k : ℕ) (z : A) → s ≡ paste lent at v k → at + k < length lent → k < length v
    → set s (at + k) (get_or v k z) ≡ paste lent at v (k + 1)
one_more lent s at v k z e h g =
    ap (λ (x : List _). set x (at + k) (get_or v k z)) e ∙ paste-suc lent at v k z h g ∙ ap (paste lent at v) (sym (add-one k))
