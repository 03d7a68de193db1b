use Rattle.scene_marks.proofs.KindLaws.{Putting}
use Rattle.scene_marks.proofs.put_row.Given as goal

abbrev pub invariant-loop-w : goal.invariant-loop-w
invariant-loop-w l = Putting l.k l.marks l.initial.words l.at l.n l.words l.w
