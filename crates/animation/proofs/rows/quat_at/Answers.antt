use Rattle.animation.proofs.RowEntries.{four}
use Rattle.animation.proofs.rows.quat_at.Goals as goal

pub returns : goal.returns
returns c =
    four c.args.values.now c.args.r c.requires
