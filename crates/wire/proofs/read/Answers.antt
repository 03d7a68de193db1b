use mathlib.Core.Path.{ap, ◌∙◌}
use Rattle.wire.proofs.Reading.{start-entries, step-entries}
use Rattle.wire.proofs.read.Goals as goal

pub loop-i-init : goal.loop-i-init
loop-i-init g c = start-entries g.T.Entry.of_word _ _ _ c.min-n.ensures

pub loop-i-preserved : goal.loop-i-preserved
loop-i-preserved g c =
    step-entries g.T.Entry.of_word _ _ _ _ _ c.loop-i.invariant c.loop-i-test.true _
    (c.from_word.ensures ∙ ap g.T.Entry.of_word c.word_at.ensures)
