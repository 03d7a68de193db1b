use mathlib.Core.Path.{◌≡◌}
use Prim.Native.Nat.{◌≤◌}
use lib.ListN.{length, take}
use Rattle.transform.specs.Blocks.{squares_of}
use Rattle.transform.proofs.packed.squares.Given as goal

abbrev pub invariant-loop-i : goal.invariant-loop-i
invariant-loop-i l = (l.i ≤ 16) × (length l.out ≡ 16) × (take l.i l.out ≡ take l.i (squares_of l.d))
