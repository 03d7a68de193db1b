use Rattle.scene_marks.proofs.MarkLaws.{Choosing}
use Rattle.scene_marks.proofs.chosen.Given as goal

abbrev pub invariant-loop-i : goal.invariant-loop-i
invariant-loop-i l = Choosing l.marks l.a l.n l.i
