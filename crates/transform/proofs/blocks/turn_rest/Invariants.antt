use mathlib.Core.Path.{◌≡◌}
use Prim.Native.Nat.{◌-◌, ◌*◌, ◌/◌, ◌≤◌}
use lib.ListN.{length}
use Rattle.scene.specs.Values.{mat3}
use Rattle.transform.specs.Blocks.{xyz_turned, rows_from}
use Rattle.transform.proofs.blocks.turn_rest.Given as goal

abbrev pub invariant-loop-i : goal.invariant-loop-i
invariant-loop-i l = (l.i ≤ l.n - l.k) × (l.n ≡ length l.initial.s / l.w) × (l.k ≡ l.n / 16 * 16) × (length l.s ≡ length l.initial.s) × (l.s ≡ rows_from l.w (λ _. xyz_turned (mat3 l.l)) l.k l.initial.s l.i)
