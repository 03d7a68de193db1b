use Rattle.text_breaks.specs.Lines.{line_on}
use Rattle.text_breaks.proofs.LineLaws.{counted_none, counted-more, counted-all, line-little}
use Rattle.text_breaks.proofs.lines.line_behind.Goals as goal

pub loop-b-init : goal.loop-b-init
loop-b-init c = counted_none line_on _

pub loop-b-preserved : goal.loop-b-preserved
loop-b-preserved c =
    counted-more c.loop-b.invariant line-little c.loop-b-test.true c.line_on-line.ensures

pub returns : goal.returns
returns c = counted-all c.loop-b.invariant c.loop-b-test.false
