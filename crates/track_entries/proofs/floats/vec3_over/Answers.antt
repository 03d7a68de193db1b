use borrow.Author.Rules.{rules}
use Rattle.track_entries.proofs.Handing.{over-three}
use Rattle.track_entries.proofs.floats.vec3_over.Goals as goal

pub returns : goal.returns
returns c = over-three c.args.lent (search rules) _ _ _
