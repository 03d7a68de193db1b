use mathlib.Core.Path.{ap, ◌∙◌}
use Prim.Native.Nat.{◌+◌}
use Rattle.tables.specs.Records.{target_row}
use Rattle.deltas.proofs.BetweenLaws.{target-cut-off}
use Rattle.deltas.proofs.records.target_at.Goals as goal

pub returns : goal.returns
returns c =
    let a = c.args in
    c.target_row.ensures
    ∙ ap (target_row a.words.now a.h.meshes.targets) c.number_of.ensures
    ∙ target-cut-off a.words.now a.h.meshes.targets (a.targets.at + a.k)
