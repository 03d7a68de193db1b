use mathlib.Core.Path.{◌≡◌, sym, ap, ◌∙◌}
use Prim.Native.Nat.{ℕ}
use lib.ListN.{length}
use borrow.Author.Tests.{eqb-true, eqb-false}
use Rattle.refusals.specs.Drawn.{number_drawn}
use Rattle.tracks.specs.declared.Part.{Part}
use Rattle.row_checks.specs.Places.{fits_in}
use Rattle.checks.proofs.Lowest.{one-first}
use Rattle.checks.proofs.OutOfTable.{is_there, is_out_of_table}
use Rattle.checks.specs.Drawn.{lower_of, lowest_below, row_number, record_words, count_within, table_of, table_number, whole_number}
use Rattle.checks.proofs.numbers.check_whole.Goals as goal

pub returns-then-eq : goal.returns-then-eq
unfolding whole_number
returns-then-eq g c floats e =
    let a = c.args in
    let drawn : number_drawn c.check_table-drawn.result ≡ table_number (length (g.W.Words.said a.words)) (table_of a.h a.k) a.k
    = c.check_table-drawn.ensures ∙ (λ j. table_number (c.count.ensures j) (c.table_of-t.ensures j) a.k) in
    let one = eqb-true _ _ (sym (is_out_of_table _ c.check_table-drawn.result) ∙ sym c.eq.ensures ∙ c.if-eq.true) in
    one ∙ one-first _ _ (sym drawn ∙ one)

pub check_rows-requires : goal.check_rows-requires
check_rows-requires g c =
    let a = c.args in
    let t = c.table_of-t.result in
    let drawn = c.check_table-drawn.ensures ∙ (λ j. table_number (c.count.ensures j) t a.k) in
    let above = eqb-false _ _ (sym (is_out_of_table _ c.check_table-drawn.result) ∙ sym c.eq.ensures ∙ c.if-eq.false) in
    g.met.W.Words.lies a.words t a.k
    (is_there (fits_in t (record_words a.k) (length (g.W.Words.said a.words))) (count_within a.k t.count) (λ z. above (drawn ∙ z)))

pub returns : goal.returns
unfolding whole_number
returns g c floats e =
    let a = c.args in
    let drawn : number_drawn c.check_table-drawn.result ≡ table_number (length (g.W.Words.said a.words)) (table_of a.h a.k) a.k
    = c.check_table-drawn.ensures ∙ (λ j. table_number (c.count.ensures j) (c.table_of-t.ensures j) a.k) in
    let draws : Part → ℕ = λ t. lowest_below t.count (row_number (g.W.Words.said a.words) floats a.s t a.k) in
    let rows = c.check_rows.ensures floats e ∙ ap draws c.table_of-t.ensures in
    c.lower.ensures ∙ (λ j. lower_of (drawn j) (rows j))
