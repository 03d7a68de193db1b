use Rattle.std.proofs.Common.{rules, ap, ◌∙◌}
use Rattle.wire.proofs.Writing.{start, step}
use Rattle.wire.proofs.write.Goals as goal

pub loop-i-init : goal.loop-i-init
loop-i-init g c = start g.T.Entry.word_of _ _ _ c.min-n.ensures

pub loop-i-preserved : goal.loop-i-preserved
loop-i-preserved g c =
    step g.T.Entry.word_of _ _ _ _ _ c.loop-i.invariant c.loop-i-test.true _ _ c.index-entries-i.result
    (c.to_word.ensures ∙ ap g.T.Entry.word_of (search rules)) c.put_word.ensures
