use mathlib.Core.Path.{sym}
use lib.Seq.{length-take-le}
use Rattle.byte_baking.proofs.OutputLaws.{start-written}
use Rattle.byte_baking.proofs.write_start.Goals as goal

pub slice_bounds-write-end : goal.slice_bounds-write-end
slice_bounds-write-end c = sym (length-take-le _ _ c.requires.there)

pub returns : goal.returns
returns c = start-written _ _ _ _ _ c.requires c.write.ensures
