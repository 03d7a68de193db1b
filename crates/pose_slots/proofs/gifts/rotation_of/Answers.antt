use mathlib.Core.Path.{sym, ◌∙◌}
use Rattle.scene.specs.Values.{quat}
use Rattle.scene.proofs.Lengths.{has-length, not_finite, not-above}
use Rattle.pose_slots.proofs.GiftLaws.{rotated, not-rotated}
use Rattle.pose_slots.proofs.gifts.rotation_of.Goals as goal

pub returns-then-len : goal.returns-then-len
returns-then-len c =
    let q = c.args.q in
    rotated q _ (has-length (quat q) _ c.length4-len.ensures (sym c.is_finite.ensures ∙ c.if-is_finite.true) c.if-len.true)

pub returns-else-len : goal.returns-else-len
returns-else-len c =
    let q = c.args.q in
    not-rotated q (not-above (quat q) _ c.length4-len.ensures c.if-len.false)

pub returns-else-is_finite : goal.returns-else-is_finite
returns-else-is_finite c =
    let q = c.args.q in
    not-rotated q (not_finite (quat q) _ c.length4-len.ensures (sym c.is_finite.ensures ∙ c.if-is_finite.false))
