use mathlib.Core.Path.{sym, ◌∙◌}
use borrow.Author.Rules.{rules}
use lib.Seq.{length-take-le}
use Rattle.wire.specs.Bytes.{words_in}
use Rattle.byte_checks.proofs.OneRecord.{decoded, row-alone}
use Rattle.byte_checks.proofs.records.BytesWords.check_row.Goals as goal

pub slice_bounds-check_row-end : goal.slice_bounds-check_row-end
slice_bounds-check_row-end c = sym (length-take-le _ _ (search rules))

pub returns : goal.returns
returns c floats e =
    let a = c.args in
    c.check_row.ensures floats e
    ∙ row-alone (words_in a.self.words.now) a.t a.i _ _ c.alone.ensures floats a.s a.k
    (decoded a.self.words.now a.t a.k a.i _ _ _ c.record_bytes.ensures c.read-n.ensures)
