use mathlib.Core.Path.{ap, ◌∙◌}
use Prim.Native.Nat.{◌+◌}
use Rattle.tables.specs.Records.{in_between_row}
use Rattle.deltas.proofs.BetweenLaws.{between-cut-off}
use Rattle.deltas.proofs.records.between_at.Goals as goal

pub returns : goal.returns
returns c =
    let a = c.args in
    c.in_between_row.ensures
    ∙ ap (in_between_row a.words.now a.h.meshes.in_betweens) c.number_of.ensures
    ∙ between-cut-off a.words.now a.h.meshes.in_betweens (a.betweens.at + a.k)
