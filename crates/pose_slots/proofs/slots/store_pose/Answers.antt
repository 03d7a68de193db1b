use mathlib.Core.Path.{ap, ◌∙◌}
use mathlib.Core.List.{List}
use Prim.Native.Nat.{ℕ, ◌*◌}
use lib.Ieee.{Float}
use lib.Seq.{paste}
use Rattle.pose_slots.proofs.slots.store_pose.Goals as goal

pub returns : goal.returns
returns c =
    let a = c.args in (
      c.put.ensures ∙ ap (λ (v : List ℕ). paste a.marks.now (a.i * 4) v 4) c.words_of.ensures,
      c.put-2.ensures ∙ ap (λ (v : List Float). paste a.slots.now (a.i * 10) v 10) c.floats_of.ensures,
    )
