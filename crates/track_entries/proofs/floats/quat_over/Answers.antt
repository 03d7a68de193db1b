use borrow.Author.Rules.{rules}
use Rattle.track_entries.proofs.Handing.{over-four}
use Rattle.track_entries.proofs.floats.quat_over.Goals as goal

pub returns : goal.returns
returns c = over-four c.args.lent (search rules) _ _ _ _
