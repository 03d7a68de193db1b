use mathlib.Core.Path.{ap, ◌∙◌}
use Rattle.model.specs.Transform.{parts, matrix}
use Rattle.tables.proofs.Naming.{is-there, not_there}
use Rattle.tables.proofs.readers.base_of.Goals as goal

pub returns-then-row-eq0 : goal.returns-then-row-eq0
returns-then-row-eq0 c = ap parts c.trs_in.ensures ∙ not_there _ _ _ c.if-row-eq0.true

pub returns : goal.returns
returns c = ap matrix c.load.ensures ∙ is-there _ _ _ c.if-row-eq0.false
