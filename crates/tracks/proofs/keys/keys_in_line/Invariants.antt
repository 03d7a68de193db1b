use Rattle.tracks.proofs.Ascent.{Tested}
use Rattle.tracks.proofs.keys.keys_in_line.Given as goal

abbrev pub invariant-loop-i : goal.invariant-loop-i
invariant-loop-i l = Tested l.keys l.last l.rising l.i
