use mathlib.Core.Path.{sym}
use lib.ListN.{get_or-eq_default}
use Rattle.worlds.proofs.posing.code_at.Goals as goal

pub returns : goal.returns
returns c = let a = c.args in sym (get_or-eq_default a.room.now.places.now 0 {n = a.i} c.if-i-room.false)
