use mathlib.Core.Path.{◌≡◌, sym, ap, ◌∙◌}
use Rattle.std.proofs.Common.{rules, Err}
use lib.ListN.{length}
use Rattle.refusals.specs.Drawn.{number_of, number_drawn}
use Rattle.tracks.specs.declared.Part.{Part}
use Rattle.checks.specs.Drawn.{table_number}
use Rattle.faults.proofs.Finding.{itself, later, drawn-same}
use Rattle.faults.specs.Faults.{spot, rows_spots, table_spots, first_with}
use Rattle.faults.proofs.spots.table_spot.Goals as goal

pub returns-then-eq : goal.returns-then-eq
unfolding table_spots
returns-then-eq c =
    let a = c.args in
    let out : c.check_table.result ≡ Err a.n = search rules in
    let number = c.check_table.ensures ∙ ap (λ (t : Part). table_number (length a.words.now) t a.k) c.table_of-t.ensures in
    ap (λ t. spot t 0 16 (number_of a.n)) c.table_index.ensures
    ∙ itself a.n _ _ _ (sym number ∙ ap number_drawn out)

pub returns : goal.returns
unfolding table_spots
returns c =
    let a = c.args in
    let t = c.table_of-t.ensures in
    let other : (c.check_table.result ≡ Err a.n → ⊥) = search rules in
    let number = c.check_table.ensures ∙ ap (λ (t : Part). table_number (length a.words.now) t a.k) t in
    c.rows_spot.ensures
    ∙ ap (λ (t : Part). first_with (number_of a.n) (rows_spots a.words.now a.s t a.k)) t
    ∙ later a.n _ _ _ (λ e. other (drawn-same _ _ (number ∙ e)))
