use mathlib.Core.Path.{sym, ◌∙◌}
use Rattle.model.specs.Lists.{is_some}
use Rattle.tables.specs.Records.{node_row}
use Rattle.checks.specs.Drawn.{lent_as}
use Rattle.bake_stages.specs.Skinned.{palette_from}
use Rattle.bake_stages.specs.Numbers.{late_number}
use Rattle.bake_stages.proofs.Placed.{world-there}
use Rattle.bake_stages.proofs.numbers.check_late.Goals as goal

pub returns-then-fit : goal.returns-then-fit
returns-then-fit c = λ own mesh slots.
    let a = c.args in
    let placed = world-there a.lent.header.graph.nodes.count a.places.now slots a.node ∙ sym c.is_placed.ensures ∙ c.if-is_placed.true in
    let row = c.node_row-row.ensures in
    let palette = sym (c.can_have_palette.ensures own mesh slots ∙ (λ j. is_some (palette_from (lent_as a.lent.words.now a.lent.floats.now own mesh a.lent.header) (row j).skin a.places.now slots))) ∙ c.if-can_have_palette.true in
    sym (λ j. late_number (placed j) (palette j) (c.if-fit.true j))

pub returns-then-can_have_palette : goal.returns-then-can_have_palette
returns-then-can_have_palette c = λ own mesh slots.
    let a = c.args in
    let placed = world-there a.lent.header.graph.nodes.count a.places.now slots a.node ∙ sym c.is_placed.ensures ∙ c.if-is_placed.true in
    let row = c.node_row-row.ensures in
    let palette = sym (c.can_have_palette.ensures own mesh slots ∙ (λ j. is_some (palette_from (lent_as a.lent.words.now a.lent.floats.now own mesh a.lent.header) (row j).skin a.places.now slots))) ∙ c.if-can_have_palette.true in
    sym (λ j. late_number (placed j) (palette j) (c.if-fit.false j))

pub returns-then-is_placed : goal.returns-then-is_placed
returns-then-is_placed c = λ own mesh slots.
    let a = c.args in
    let placed = world-there a.lent.header.graph.nodes.count a.places.now slots a.node ∙ sym c.is_placed.ensures ∙ c.if-is_placed.true in
    let row = c.node_row-row.ensures in
    let palette = sym (c.can_have_palette.ensures own mesh slots ∙ (λ j. is_some (palette_from (lent_as a.lent.words.now a.lent.floats.now own mesh a.lent.header) (row j).skin a.places.now slots))) ∙ c.if-can_have_palette.false in
    sym (λ j. late_number (placed j) (palette j) a.fit)

pub returns : goal.returns
returns c = λ own mesh slots.
    let a = c.args in
    let placed = world-there a.lent.header.graph.nodes.count a.places.now slots a.node ∙ sym c.is_placed.ensures ∙ c.if-is_placed.false in
    sym (λ j. late_number (placed j) (is_some (palette_from (lent_as a.lent.words.now a.lent.floats.now own mesh a.lent.header) (node_row a.lent.words.now a.lent.header.graph.nodes a.node).skin a.places.now slots)) a.fit)
