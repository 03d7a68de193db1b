use Rattle.std.proofs.Common.{rules}
use Rattle.lists.proofs.Inputs.{read_on}
use Rattle.lists.proofs.reading.read_full.Goals as goal

pub loop-done-preserved : goal.loop-done-preserved
loop-done-preserved g c =
    let before = c.loop-done.invariant in
    let read = c.in_ok-n.ensures in
    (search rules, read.fits, search rules, read_on _ _ _ _ _ _ _ read.front before.3 read.bytes)
