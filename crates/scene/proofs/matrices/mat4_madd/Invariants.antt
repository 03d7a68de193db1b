use mathlib.Core.Path.{◌≡◌}
use Prim.Native.Nat.{◌≤◌}
use lib.ListN.{length, take}
use Rattle.model.specs.Vector.{◌⊙◌, ◌⊞◌}
use Rattle.scene.proofs.matrices.mat4_madd.Given as goal

abbrev pub invariant-loop-k : goal.invariant-loop-k
invariant-loop-k l = (l.k ≤ 16) × (length l.out ≡ 16) × (length l.a ≡ 16) × (length l.b ≡ 16) × (take l.k l.out ≡ take l.k (l.a ⊞ l.w ⊙ l.b))
