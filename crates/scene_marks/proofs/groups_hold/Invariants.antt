use Rattle.scene_marks.proofs.KindLaws.{Grouping}
use Rattle.scene_marks.proofs.groups_hold.Given as goal

abbrev pub invariant-loop-j : goal.invariant-loop-j
invariant-loop-j l = Grouping l.k l.marks l.n l.j
