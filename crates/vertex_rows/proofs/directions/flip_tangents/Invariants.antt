use mathlib.Core.Path.{◌≡◌}
use Prim.Native.Nat.{◌/◌, ◌≤◌}
use lib.ListN.{length}
use Rattle.vertex_rows.specs.Rows.{flipped, first_rows}
use Rattle.vertex_rows.proofs.directions.flip_tangents.Given as goal

abbrev pub invariant-loop-k : goal.invariant-loop-k
invariant-loop-k l = (l.k ≤ l.n) × (l.n ≡ length l.initial.tangents / 4) × (length l.tangents ≡ length l.initial.tangents) × (l.tangents ≡ first_rows 4 (λ _. flipped) l.initial.tangents l.k)
