use Rattle.text_breaks.specs.Lines.{column_on}
use Rattle.text_breaks.proofs.LineLaws.{Counted}
use Rattle.text_breaks.proofs.lines.column_behind.Given as goal

abbrev pub invariant-loop-b : goal.invariant-loop-b
invariant-loop-b l = Counted column_on l.before l.b-index l.column
