use Rattle.animation.proofs.SourceLaws.{row-entry}
use Rattle.animation.proofs.weights.entry_of.Goals as goal

pub returns : goal.returns
returns c = row-entry c.args.values.now c.args.n c.args.r c.args.j c.requires.0
