use mathlib.Core.Path.{◌≡◌}
use lib.ListN.{length}
use Rattle.spelling.specs.Pushed.{out_at, pushes}
use Rattle.printing.specs.Lines.{vertices_text}
use Rattle.printing.proofs.put_vertices.Given as goal

abbrev pub invariant-loop-left : goal.invariant-loop-left
invariant-loop-left l =
    pushes (vertices_text l.left) (out_at l.out l.k) ≡ pushes (vertices_text l.positions) (out_at l.initial.out 0)

abbrev pub decreases-loop-left : goal.decreases-loop-left
decreases-loop-left l = length l.left
