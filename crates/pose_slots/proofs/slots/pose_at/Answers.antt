use mathlib.Core.Path.{◌∙◌}
use Prim.Native.Nat.{◌≤◌}
use native.Mathlib.Omega.{arith}
use Rattle.pose_slots.specs.Slots.{room}
use Rattle.pose_slots.proofs.SlotLaws.{cut-in-room, past_room}
use Rattle.pose_slots.proofs.slots.pose_at.Goals as goal
use Rattle.pose_slots.proofs.slots.pose_at.Goals.{then-i-marks+else-i-slots, else-i-marks}

pub returns-then-i-slots : goal.returns-then-i-slots
returns-then-i-slots c =
    c.pose_from.ensures
    ∙ cut-in-room c.args.marks.now c.args.slots.now c.args.i c.if-i-marks.true c.if-i-slots.true

pub returns : goal.returns
returns c =
    let marks = c.args.marks.now in
    let slots = c.args.slots.now in
    let h : room marks slots ≤ c.args.i =
    elim c.if-i-marks.branch [ then-i-marks+else-i-slots w ↦ omega arith | else-i-marks w ↦ omega arith ] in
    c.at_rest.ensures ∙ past_room marks slots c.args.i h
