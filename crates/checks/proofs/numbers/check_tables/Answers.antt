use mathlib.Core.Path.{refl}
use Rattle.tables.specs.Decoded.{lent_of}
use Rattle.checks.proofs.numbers.check_tables.Goals as goal

pub returns : goal.returns
returns c = c.check_all.ensures (lent_of c.args.lent) refl refl c.sizes_of.ensures
