use mathlib.Core.Bool.{Bool}
use mathlib.Core.Path.{sym, ap, ◌∙◌}
use borrow.Author.Tests.{eq-eqb, ne_eqb}
use Rattle.refusals.specs.Drawn.{number_drawn}
use Rattle.refusals.proofs.Told.{not-none}
use Rattle.model.specs.Lists.{pick}
use Rattle.tables.specs.Decoded.{lent_of}
use Rattle.checks.specs.Drawn.{tables_number}
use Rattle.faults.specs.Faults.{no_fault, spots, spots_for, first_with, fault_of}
use Rattle.faults.proofs.spots.scene_fault.Goals as goal

pub returns-in-Ok : goal.returns-in-Ok
unfolding fault_of
returns-in-Ok c =
    let l = lent_of c.args.lent in
    let none = sym c.check_tables.ensures ∙ ap number_drawn c.in-Ok.is in
    c.from.ensures
    ∙ ap (λ (b : Bool). pick b no_fault (first_with (tables_number l) (spots l))) (sym (eq-eqb (tables_number l) 0 none))

pub returns-in-Err : goal.returns-in-Err
unfolding fault_of
returns-in-Err c =
    let l = lent_of c.args.lent in
    let number = sym c.check_tables.ensures ∙ ap number_drawn c.in-Err.is in
    c.from-in-Err.ensures
    ∙ c.first_spot.ensures
    ∙ (λ j. first_with (sym number j) (spots_for l.words (c.sizes_of.ensures j) l.header))
    ∙ ap (λ (b : Bool). pick b no_fault (first_with (tables_number l) (spots l)))
    (sym (ne_eqb (tables_number l) 0 (λ z. not-none c.in-Err.n (sym number ∙ z))))
