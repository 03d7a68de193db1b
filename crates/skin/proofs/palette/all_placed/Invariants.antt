use mathlib.Core.Path.{◌≡◌}
use Prim.Native.Nat.{◌≤◌}
use lib.ListN.{length, drop}
use Rattle.model.specs.Lists.{every}
use Rattle.skin.specs.Palette.{has_world}
use Rattle.skin.proofs.palette.all_placed.Given as goal

abbrev pub invariant-loop-i : goal.invariant-loop-i
invariant-loop-i l = (l.i ≤ length l.joints) × (every (has_world l.n l.places) l.joints ≡ every (has_world l.n l.places) (drop l.i l.joints))
