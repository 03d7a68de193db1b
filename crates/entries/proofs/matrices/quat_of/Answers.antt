use mathlib.Core.Path.{sym}
use borrow.Author.Rules.{rules}
use lib.Ieee.{nan}
use Rattle.model.proofs.ListLaws.{entries_from, by_entries}
use Rattle.entries.proofs.matrices.quat_of.Goals as goal

pub returns : goal.returns
unfolding entries_from
returns c = sym (by_entries nan _ 4 (search rules))
