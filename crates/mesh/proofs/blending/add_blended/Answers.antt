use mathlib.Core.Path.{◌∙◌}
use Rattle.model.specs.Lists.{rows_in, tabulate}
use Rattle.model.specs.Vector.{◌⊞◌}
use Rattle.model.specs.Morph.{with_deltas}
use Rattle.model.specs.Attributes.{over_rows}
use Rattle.deltas.specs.Mixed.{mixed_in}
use Rattle.mesh.specs.Blended.{blended_in}
use Rattle.mesh.proofs.blending.add_blended.Goals as goal

pub returns : goal.returns
unfolding blended_in
returns c =
    let a = c.args in
    let lent = a.out.now in
    c.add_between.ensures
    ∙ (λ j. over_rows 3 (with_deltas ◌⊞◌ (rows_in 3 lent) (tabulate (c.count_of-count.ensures j) (mixed_in a.t (c.deltas_in.ensures j) (c.deltas_in-2.ensures j)))) lent)
