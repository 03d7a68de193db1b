use Rattle.animation.proofs.RowEntries.{three}
use Rattle.animation.proofs.rows.vec3_at.Goals as goal

pub returns : goal.returns
returns c = three c.args.values.now c.args.r c.requires
