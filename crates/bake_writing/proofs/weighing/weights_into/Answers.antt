use mathlib.Core.Path.{sym, ◌∙◌}
use native.Mathlib.Omega.{arith}
use Rattle.tables.specs.Decoded.{lent_of}
use Rattle.bake_writing.proofs.PosedWeights.{by-channel, by_rows}
use Rattle.bake_writing.proofs.weighing.weights_into.Goals as goal

pub returns-then-word-ne0 : goal.returns-then-word-ne0
returns-then-word-ne0 c =
    let a = c.args in
    by-channel (lent_of a.lent) a.time a.marks.now a.node a.mesh _ _ _
    (omega (arith, c.weights_word-word.ensures, c.if-word-ne0.true)) c.posed_weights.ensures

pub returns : goal.returns
returns c =
    let a = c.args in
    by_rows (lent_of a.lent) a.time a.marks.now a.node a.mesh _ _ _
    (sym c.weights_word-word.ensures ∙ c.if-word-ne0.false) c.node_row-row.ensures c.unposed_weights.ensures
