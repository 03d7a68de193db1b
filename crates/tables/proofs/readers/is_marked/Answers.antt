use Rattle.tables.proofs.Naming.{marked}
use Rattle.tables.proofs.readers.is_marked.Goals as goal

pub returns : goal.returns
returns c = marked c.args.mark
