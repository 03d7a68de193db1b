use mathlib.Core.Path.{sym, ap}
use lib.Ieee.{nan}
use Rattle.model.proofs.ListLaws.{entries_from, by_entries}
use Rattle.tables.specs.Decoded.{parts_from}
use Rattle.tables.proofs.readers.trs_from.Goals as goal

pub returns : goal.returns
unfolding entries_from
returns c =
    sym (ap parts_from (by_entries nan c.args.ten.now 10 c.requires))
