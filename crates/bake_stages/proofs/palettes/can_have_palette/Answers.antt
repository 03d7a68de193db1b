use mathlib.Core.Path.{sym, ap, ◌∙◌}
use Rattle.model.specs.Lists.{is_some}
use Rattle.checks.specs.Drawn.{lent_as}
use Rattle.tables.proofs.Naming.{some-alike}
use Rattle.bake_stages.proofs.NamedPalette.{without-skin, is_made}
use Rattle.bake_stages.proofs.palettes.can_have_palette.Goals as goal

pub returns-then-not-is_marked : goal.returns-then-not-is_marked
returns-then-not-is_marked c = λ own mesh slots.
    let a = c.args in
    sym (ap is_some (without-skin (lent_as a.lent.words.now a.lent.floats.now own mesh a.lent.header) a.skin a.places.now slots
    (sym c.is_marked.ensures ∙ c.if-not-is_marked.true)))

pub returns : goal.returns
returns c = λ own mesh slots.
    let a = c.args in
    c.is_some.ensures
    ∙ some-alike c.palette_count.result
    ∙ is_made (lent_as a.lent.words.now a.lent.floats.now own mesh a.lent.header) a.skin a.places.now slots (sym c.is_marked.ensures ∙ c.if-not-is_marked.false) _
    (c.palette_count.ensures.count own mesh slots)
