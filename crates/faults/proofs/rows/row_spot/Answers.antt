use mathlib.Core.Path.{ap, ◌∙◌}
use Rattle.refusals.specs.Drawn.{number_of}
use Rattle.word_checks.specs.Words.{row_asked}
use Rattle.faults.proofs.Finding.{word-found, no-word}
use Rattle.faults.specs.Faults.{spot, spot_told, table_index}
use Rattle.faults.proofs.rows.row_spot.Goals as goal

pub returns : goal.returns
returns c =
    let a = c.args in
    ap (λ t. spot t a.i c.in_ok-word.word (number_of a.n)) c.table_index.ensures
    ∙ word-found a.n (table_index a.k) a.i (row_asked a.words.now a.s a.t a.k a.i a.entries) _ c.in_ok-word.ensures

pub returns-in_err-word : goal.returns-in_err-word
returns-in_err-word c =
    let a = c.args in
    ap spot_told c.from_residual.ensures
    ∙ no-word a.n (table_index a.k) a.i (row_asked a.words.now a.s a.t a.k a.i a.entries) c.in_err-word.ensures
