use mathlib.Core.Path.{sym}
use lib.ListN.{get_or-eq_default}
use Rattle.model.proofs.ListLaws.{same-entry}
use Rattle.tables.proofs.readers.weight_of.Goals as goal

pub returns-then-at-floats : goal.returns-then-at-floats
returns-then-at-floats c = let a = c.args in same-entry a.floats.now a.row.weight _ _ c.if-at-floats.true

pub returns : goal.returns
returns c = let a = c.args in sym (get_or-eq_default a.floats.now _ {n = a.row.weight} c.if-at-floats.false)
