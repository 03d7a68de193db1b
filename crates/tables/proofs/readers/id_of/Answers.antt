use mathlib.Core.Option.{none, some}
use Rattle.tables.proofs.Naming.{is-there}
use Rattle.tables.proofs.readers.id_of.Goals as goal

pub returns : goal.returns
returns c = is-there _ (some _) none c.if-r-eq0.false
