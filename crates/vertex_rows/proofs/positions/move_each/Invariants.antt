use Rattle.std.proofs.Common.{◌≡◌, length}
use Rattle.model.specs.Vector.{Vector}
use Rattle.vertex_rows.specs.Rows.{first_rows, Makes}
use Rattle.vertex_rows.proofs.positions.move_each.Given as goal

abbrev pub invariant-loop-k : goal.invariant-loop-k
invariant-loop-k g l = (length l.positions ≡ length l.initial.positions) × ((h : Vector → Vector) → Makes (λ p r. g.F.Fn.post l.f (p, tt) r) h → l.positions ≡ first_rows 3 (λ _. h) l.initial.positions l.k)
