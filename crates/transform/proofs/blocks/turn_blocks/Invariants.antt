use mathlib.Core.Path.{◌≡◌}
use Prim.Native.Nat.{◌*◌, ◌/◌, ◌≤◌}
use lib.ListN.{length}
use Rattle.scene.specs.Values.{mat3}
use Rattle.vertex_rows.specs.Rows.{first_rows}
use Rattle.transform.specs.Blocks.{xyz_turned}
use Rattle.transform.proofs.blocks.turn_blocks.Given as goal

abbrev pub invariant-loop-b : goal.invariant-loop-b
invariant-loop-b l = (l.b ≤ l.n) × (l.n ≡ length l.initial.s / l.w / 16) × (length l.s ≡ length l.initial.s) × (l.s ≡ first_rows l.w (λ _. xyz_turned (mat3 l.l)) l.initial.s (l.b * 16))
