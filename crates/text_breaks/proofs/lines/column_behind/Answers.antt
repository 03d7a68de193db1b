use Rattle.text_breaks.specs.Lines.{column_on}
use Rattle.text_breaks.proofs.LineLaws.{counted_none, counted-more, counted-all, column-little}
use Rattle.text_breaks.proofs.lines.column_behind.Goals as goal

pub loop-b-init : goal.loop-b-init
loop-b-init c = counted_none column_on _

pub loop-b-preserved : goal.loop-b-preserved
loop-b-preserved c =
    counted-more c.loop-b.invariant column-little c.loop-b-test.true c.column_on-column.ensures

pub returns : goal.returns
returns c = counted-all c.loop-b.invariant c.loop-b-test.false
