use mathlib.Core.Path.{sym}
use borrow.Author.Rules.{rules}
use lib.Ieee.{nan}
use Rattle.model.proofs.ListLaws.{entries_from, by_entries}
use Rattle.scene.proofs.matrices.rows_of.Goals as goal

pub returns : goal.returns
unfolding entries_from
returns c = sym (by_entries nan c.args.m.m 16 (search rules))
