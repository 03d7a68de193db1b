use Rattle.text_breaks.specs.Lines.{line_on}
use Rattle.text_breaks.proofs.LineLaws.{Counted}
use Rattle.text_breaks.proofs.lines.line_behind.Given as goal

abbrev pub invariant-loop-b : goal.invariant-loop-b
invariant-loop-b l = Counted line_on l.before l.b-index l.line
