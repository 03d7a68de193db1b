use mathlib.Core.Path.{sym, ◌∙◌}
use Rattle.model.specs.Lists.{pick}
use Rattle.model.specs.Refusals.{number, bad_form, out_of_table}
use Rattle.scene_text.specs.Scanned.{leaves_table}
use Rattle.scene_text.proofs.tables_read.check_reading.Goals as goal

pub returns-then-not-is_reading : goal.returns-then-not-is_reading
returns-then-not-is_reading c =
    let bad = sym c.is_reading.ensures ∙ c.if-not-is_reading.true in
    sym (λ i. pick (bad i) (pick (leaves_table c.args.f) (number out_of_table) 0) (number bad_form))

pub returns-then-leaves_table : goal.returns-then-leaves_table
returns-then-leaves_table c =
    let good = sym c.is_reading.ensures ∙ c.if-not-is_reading.false in
    let leaves = sym c.leaves_table.ensures ∙ c.if-leaves_table.true in
    sym (λ i. pick (good i) (pick (leaves i) (number out_of_table) 0) (number bad_form))

pub returns : goal.returns
returns c =
    let good = sym c.is_reading.ensures ∙ c.if-not-is_reading.false in
    let inside = sym c.leaves_table.ensures ∙ c.if-leaves_table.false in
    sym (λ i. pick (good i) (pick (inside i) (number out_of_table) 0) (number bad_form))
