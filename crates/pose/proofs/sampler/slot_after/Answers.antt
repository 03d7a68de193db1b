use mathlib.Core.Path.{sym, ap, ◌∙◌}
use mathlib.Core.Bool.{Bool}
use Prim.Native.Nat.{◌+◌, ◌*◌}
use lib.ListN.{get_or}
use Rattle.model.specs.Lists.{pick}
use Rattle.model.specs.Pose.{Pose, drive}
use Rattle.pose_slots.specs.Slots.{pose_of}
use Rattle.pose_slots.specs.Channels.{channel_in}
use Rattle.pose_slots.specs.Gifts.{bare}
use Rattle.pose_slots.proofs.SlotLaws.{slot-pose}
use Rattle.pose_slots.proofs.GiftLaws.{gift-pose}
use Rattle.pose.proofs.sampler.slot_after.Goals as goal

pub returns : goal.returns
returns c =
    let a = c.args in
    let t = channel_in a.floats.now a.row in (
      ap pose_of c.receive.ensures ∙ gift-pose c.gift_at-g.result c.pose_at.result
          ∙ sym (c.gift_at-g.ensures.pose (pose_of c.pose_at.result))
          ∙ ap (λ (p : Pose). bare (drive a.time p t))
          (ap pose_of c.pose_at.ensures ∙ slot-pose a.marks.now a.slots.now a.row.target),
      c.word_after.ensures ∙ ap (λ (b : Bool). pick b (a.k + 1) (get_or a.marks.now (a.row.target * 4 + 3) 0)) (sym c.gift_at-g.ensures.weights),
    )
