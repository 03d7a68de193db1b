use Rattle.tables.proofs.Cutting.{cut_off}
use Rattle.tables.proofs.parts.span_in.Goals as goal

pub returns : goal.returns
returns g c =
    let a = c.args in
    cut_off a.entries.now a.p a.width _ _ c.min-start.ensures c.entries_in.ensures
