use Rattle.scene_marks.proofs.MarkLaws.{Counting}
use Rattle.scene_marks.proofs.present.Given as goal

abbrev pub invariant-loop-i : goal.invariant-loop-i
invariant-loop-i l = Counting l.marks l.j l.n l.count l.i
