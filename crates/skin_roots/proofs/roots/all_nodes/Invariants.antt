use mathlib.Core.Path.{◌≡◌}
use Prim.Native.Nat.{◌≤◌}
use lib.Dec.{ltb}
use lib.ListN.{length, drop}
use Rattle.model.specs.Lists.{every}
use Rattle.skin_roots.proofs.roots.all_nodes.Given as goal

abbrev pub invariant-loop-i : goal.invariant-loop-i
invariant-loop-i l = (l.i ≤ length l.joints) × (every (λ j. ltb j l.n) l.joints ≡ every (λ j. ltb j l.n) (drop l.i l.joints))
