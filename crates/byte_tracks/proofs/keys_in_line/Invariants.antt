use mathlib.Core.Path.{◌≡◌}
use Prim.Native.Nat.{◌-◌, ◌/◌}
use lib.ListN.{length}
use Rattle.wire.specs.Bytes.{floats_in}
use Rattle.tracks.proofs.Ascent.{Tested}
use Rattle.byte_tracks.proofs.keys_in_line.Given as goal

abbrev pub invariant-loop-i : goal.invariant-loop-i
invariant-loop-i l = (l.count ≡ length l.keys / 4) × Tested (floats_in l.keys) l.last l.rising l.i
